-- The objects that are found in bytes have numbers in the ranges of their fields.
use Rattle.std.proofs.Common.{◌≡◌, ℕ, zero, suc, ◌-◌, ◌^◌, ◌<◌, Bool, true, false, not, cond, eqb, List, [], ◌∷◌, length, take, drop, get_or, Option, Some, None, Result, Ok, Err, refl, sym, ap, subst, ◌∙◌, arith}
use Rattle.std.proofs.lemmas.Bool.{false≢true}
use Rattle.std.specs.List.{AllByRecursion}
use Rattle.byteorder.specs.Numbers.{big_from-lt}
use Rattle.pcep_word.specs.Word.{bandwidth_of, IsBandwidth, IsBound}
use Rattle.pcep_objects.specs.Steps.{◌>>=◌, field}
use Rattle.pcep_objects.specs.Tlvs.{skipped_tlvs, value_in, fitting_in}
use Rattle.pcep_objects.specs.Routes.{hops_of}
use Rattle.pcep_objects.specs.Bodies as bodies
use Rattle.pcep_objects.specs.Metrics.{metric_of}
use Rattle.pcep_objects.specs.SessionObjects.{open_of, notification_of, error_of, close_of}
use Rattle.pcep_objects.specs.RequestObjects.{rp_of, no_path_of, end_points_of, IsRp, IsEndPoints}
use Rattle.pcep_objects.specs.Kinds.{kind_at}
use Rattle.pcep_objects.specs.Objects.{header_at, body_of, sized, with_header, object_at}
use Rattle.pcep_objects.specs.Spelling as spelling
use Rattle.pcep_objects.specs.declared.fault.BodyFault.{BodyFault}
use Rattle.pcep_objects.specs.declared.fault.BodyFault.TheVariants.{BadLength}
use Rattle.pcep_objects.specs.declared.fault.ObjectFault.{ObjectFault}
use Rattle.pcep_objects.specs.declared.fault.ObjectFault.TheVariants as fault
use Rattle.pcep_objects.specs.declared.header.Header.{Header}
use Rattle.pcep_objects.specs.declared.kind.Kind.{Kind}
use Rattle.pcep_objects.specs.declared.kind.Kind.TheVariants as kinds
use Rattle.pcep_objects.specs.declared.object.BandwidthType.{BandwidthType}
use Rattle.pcep_objects.specs.declared.object.BandwidthType.TheVariants.{Requested, Current}
use Rattle.pcep_objects.specs.declared.object.Metric.{Metric}
use Rattle.pcep_objects.specs.declared.object.Object.{Object}
use Rattle.pcep_objects.specs.declared.object.Object.TheVariants as objects
use Rattle.pcep_objects.specs.declared.object.Srp.{Srp}
use Rattle.pcep_objects.specs.declared.request_objects.EndPoints.{EndPoints}
use Rattle.pcep_objects.proofs.NormalRead.{read_normal}
use Rattle.pcep_messages.specs.Counting as parts
use Rattle.pcep_messages.specs.Errors.{named_request, named_srp}
use Rattle.pcep_messages.specs.Normal.{IsWord}
use Rattle.pcep_messages.specs.Objects.{Found, followed_by, found_from, found_in}

abbrev pub AreBytes : List ℕ → Type 0
AreBytes bytes = AllByRecursion spelling.IsByte bytes

abbrev pub MayBe : {A : Type 0} → (A → Type 0) → Option A → Type 0
MayBe Good None = Unit {0}
MayBe Good (Some x) = Good x

-- what counts of the object has numbers in the ranges of its fields
pub record IsSound (object : Object) : Type 0 where
  pub rp : MayBe IsRp (parts.rp_of object)
  pub end_points : MayBe IsEndPoints (parts.end_points_of object)
  pub bandwidth : MayBe IsBandwidth (parts.requested_of object)
  pub metric : MayBe (λ (metric : Metric). IsBound metric.value) (parts.metric_of object)
  pub ero : MayBe (AllByRecursion (spelling.IsHop true)) (parts.ero_of object)
  pub lspa : MayBe spelling.IsLspa (parts.lspa_of object)
  pub lsp : MayBe spelling.IsLsp (parts.lsp_of object)
  pub srp : MayBe (λ (srp : Srp). IsWord srp.id) (parts.srp_of object)
  pub request : MayBe IsWord (named_request object)
  pub srp_id : MayBe IsWord (named_srp object)

-- ---- bytes

taken : (n : ℕ) (xs : List ℕ) → AreBytes xs → AreBytes (take n xs)
taken zero xs good = tt
taken (suc n) [] good = tt
taken (suc n) (x ∷ xs) good = (good.0, taken n xs good.1)

pub dropped : (n : ℕ) (xs : List ℕ) → AreBytes xs → AreBytes (drop n xs)
dropped zero xs good = good
dropped (suc n) [] good = tt
dropped (suc n) (x ∷ xs) good = dropped n xs good.1

byte_at_place : (xs : List ℕ) (i : ℕ) → AreBytes xs → get_or xs i 0 < 256
byte_at_place [] i good = omega arith
byte_at_place (x ∷ xs) zero good = good.0
byte_at_place (x ∷ xs) (suc i) good = byte_at_place xs i good.1

field_below : (i n : ℕ) (xs : List ℕ) → AreBytes xs → field i n xs < 256 ^ n
field_below i n xs good = big_from-lt 0 n (drop i xs) (λ k. byte_at_place (drop i xs) k (dropped i xs good))

-- ---- END-POINTS, with P set or clear

abbrev is_ends : Object → Bool
is_ends (objects.EndPoints ends) = true
is_ends object = false

abbrev gives_ends : Result Object BodyFault → Bool
gives_ends (Ok object) = is_ends object
gives_ends (Err f) = false

others : {A : Type 0} (r : Result A BodyFault) (f : A → Object) → ((a : A) → is_ends (f a) ≡ false) → gives_ends (r >>= λ a. Ok (f a)) ≡ false
others (Ok a) f none = none a
others (Err e) f none = refl

later : {A : Type 0} (r : Result A BodyFault) (f : A → Result Object BodyFault) → ((a : A) → gives_ends (f a) ≡ false) → gives_ends (r >>= f) ≡ false
later (Ok a) f none = none a
later (Err e) f none = refl

tested : (t : Bool) (f : BodyFault) (r : Result Object BodyFault) → gives_ends r ≡ false → gives_ends (cond t (Err f) r) ≡ false
tested true f r none = refl
tested false f r none = none

no_bandwidth : (kind : BandwidthType) (o : Option ℕ) → gives_ends (bodies.bandwidth_or_bad kind o) ≡ false
no_bandwidth kind None = refl
no_bandwidth kind (Some v) = refl

bandwidth_others : (kind : BandwidthType) (bytes : List ℕ) → gives_ends (bodies.bandwidth_body kind bytes) ≡ false
unfolding bodies.bandwidth_body
bandwidth_others kind bytes =
    let found = bandwidth_of (field 0 4 bytes) in
    tested (not (eqb (length bytes) 4)) BadLength (bodies.bandwidth_or_bad kind found) (no_bandwidth kind found)

ero_others : (bytes : List ℕ) → gives_ends (bodies.ero_body bytes) ≡ false
unfolding bodies.ero_body
ero_others bytes = others (hops_of true bytes) (λ hops. objects.Ero hops) (λ a. refl)

rro_others : (bytes : List ℕ) → gives_ends (bodies.rro_body bytes) ≡ false
unfolding bodies.rro_body
rro_others bytes = others (hops_of false bytes) (λ hops. objects.Rro hops) (λ a. refl)

lspa_others : (bytes : List ℕ) → gives_ends (bodies.lspa_body bytes) ≡ false
unfolding bodies.lspa_body
lspa_others bytes = tested _ BadLength _ (others (skipped_tlvs (drop 16 bytes)) _ (λ a. refl))

lsp_others : (bytes : List ℕ) → gives_ends (bodies.lsp_body bytes) ≡ false
unfolding bodies.lsp_body
lsp_others bytes =
    let tlvs = drop 4 bytes in
    tested _ BadLength _ (later (value_in 18 (Some 16) tlvs) _ (λ identifiers. later (value_in 17 None tlvs) _ (λ name. later (fitting_in 20 4 tlvs) _ (λ code. others (fitting_in 21 12 tlvs) _ (λ error. refl)))))

srp_others : (bytes : List ℕ) → gives_ends (bodies.srp_body bytes) ≡ false
unfolding bodies.srp_body
srp_others bytes = tested _ BadLength _ (others (skipped_tlvs (drop 8 bytes)) _ (λ a. refl))

abbrev ok : Object → Result Object BodyFault
ok object = Ok object

abbrev AreEnds : Result Object BodyFault → Type 0
AreEnds r = (ends : EndPoints) → r ≡ ok (objects.EndPoints ends) → IsEndPoints ends

none : (r : Result Object BodyFault) → gives_ends r ≡ false → AreEnds r
none r is ends e = absurd (false≢true (sym is ∙ ap gives_ends e))

ends_read : (t : Bool) (x ends : EndPoints) → (cond t (Err BadLength) (Ok x) >>= λ y. ok (objects.EndPoints y)) ≡ ok (objects.EndPoints ends) → x ≡ ends
ends_read true x ends e = cc
ends_read false x ends e = cc

ends_sound : (p : Bool) (bytes : List ℕ) → AreBytes bytes → AreEnds (end_points_of p bytes >>= λ x. Ok (objects.EndPoints x))
unfolding end_points_of
ends_sound p bytes good ends e =
    subst IsEndPoints (ends_read (not (eqb (length bytes) 8)) (record { p = p; source = field 0 4 bytes; destination = field 4 4 bytes }) ends e)
    (record { source = field_below 0 4 bytes good; destination = field_below 4 4 bytes good })

body_ends : (kind : Kind) (p : Bool) (bytes : List ℕ) → AreBytes bytes → AreEnds (body_of kind p bytes)
body_ends kinds.Open p bytes good = none _ (others (open_of bytes) (λ x. objects.Open x) (λ a. refl))
body_ends kinds.Rp p bytes good = none _ (others (rp_of p bytes) (λ x. objects.Rp x) (λ a. refl))
body_ends kinds.NoPath p bytes good = none _ (others (no_path_of bytes) (λ x. objects.NoPath x) (λ a. refl))
body_ends kinds.EndPoints p bytes good = ends_sound p bytes good
body_ends kinds.RequestedBandwidth p bytes good = none _ (bandwidth_others Requested bytes)
body_ends kinds.CurrentBandwidth p bytes good = none _ (bandwidth_others Current bytes)
body_ends kinds.Metric p bytes good = none _ (others (metric_of bytes) (λ x. objects.Metric x) (λ a. refl))
body_ends kinds.Ero p bytes good = none _ (ero_others bytes)
body_ends kinds.Rro p bytes good = none _ (rro_others bytes)
body_ends kinds.Lspa p bytes good = none _ (lspa_others bytes)
body_ends kinds.Iro p bytes good = none _ refl
body_ends kinds.Svec p bytes good = none _ refl
body_ends kinds.Notification p bytes good = none _ (others (notification_of bytes) (λ x. objects.Notification x) (λ a. refl))
body_ends kinds.Error p bytes good = none _ (others (error_of bytes) (λ x. objects.Error x) (λ a. refl))
body_ends kinds.LoadBalancing p bytes good = none _ refl
body_ends kinds.Close p bytes good = none _ (others (close_of bytes) (λ x. objects.Close x) (λ a. refl))
body_ends kinds.Lsp p bytes good = none _ (lsp_others bytes)
body_ends kinds.Srp p bytes good = none _ (srp_others bytes)

sized_is : (n m : ℕ) (r : Result Object BodyFault) (object : Object) → sized n r ≡ Ok (object, m) → r ≡ Ok object
sized_is n m (Ok o) object e = let same : (o, n) ≡ (object, m) = cc in ap (λ (x : Object × ℕ). ok x.0) same
sized_is n m (Err f) object e = cc

with_kind : (h : Header) (o : Option Kind) (bytes : List ℕ) (ends : EndPoints) (n : ℕ) → AreBytes bytes → with_header h o bytes ≡ Ok (objects.EndPoints ends, n) → IsEndPoints ends
with_kind h None bytes ends n good e = cc
with_kind h (Some kind) bytes ends n good e = body_ends kind h.p bytes good ends (sized_is h.size n (body_of kind h.p bytes) (objects.EndPoints ends) e)

abbrev inner : List ℕ → Header → List ℕ
inner bytes h = take (h.size - 4) (drop 4 bytes)

with_read : (r : Result Header ObjectFault) (bytes : List ℕ) (ends : EndPoints) (n : ℕ) → AreBytes bytes
    → (r >>= λ h. with_header h (kind_at h.class h.object_type) (inner bytes h)) ≡ Ok (objects.EndPoints ends, n) → IsEndPoints ends
with_read (Ok h) bytes ends n good e = with_kind h (kind_at h.class h.object_type) (inner bytes h) ends n (taken (h.size - 4) (drop 4 bytes) (dropped 4 bytes good)) e
with_read (Err f) bytes ends n good e = cc

at_ends : (bytes : List ℕ) (ends : EndPoints) (n : ℕ) → AreBytes bytes → object_at bytes ≡ Ok (objects.EndPoints ends, n) → IsEndPoints ends
unfolding object_at
at_ends bytes ends n good e = with_read (header_at bytes) bytes ends n good e

-- ---- any object

abbrev IsAt : List ℕ → ℕ → Object → Type 0
IsAt bytes n object = object_at bytes ≡ Ok (object, n)

object_sound : (bytes : List ℕ) (n : ℕ) (object : Object) → AreBytes bytes → IsAt bytes n object → IsSound object
object_sound bytes n (objects.Open x) good e = record { rp = tt; end_points = tt; bandwidth = tt; metric = tt; ero = tt; lspa = tt; lsp = tt; srp = tt; request = tt; srp_id = tt }
object_sound bytes n (objects.Rp x) good e = record { rp = read_normal bytes n (objects.Rp x) good tt e; end_points = tt; bandwidth = tt; metric = tt; ero = tt; lspa = tt; lsp = tt; srp = tt; request = (read_normal bytes n (objects.Rp x) good tt e).id; srp_id = tt }
object_sound bytes n (objects.NoPath x) good e = record { rp = tt; end_points = tt; bandwidth = tt; metric = tt; ero = tt; lspa = tt; lsp = tt; srp = tt; request = tt; srp_id = tt }
object_sound bytes n (objects.EndPoints x) good e = record { rp = tt; end_points = at_ends bytes x n good e; bandwidth = tt; metric = tt; ero = tt; lspa = tt; lsp = tt; srp = tt; request = tt; srp_id = tt }
object_sound bytes n (objects.Bandwidth Requested x) good e = record { rp = tt; end_points = tt; bandwidth = read_normal bytes n (objects.Bandwidth Requested x) good tt e; metric = tt; ero = tt; lspa = tt; lsp = tt; srp = tt; request = tt; srp_id = tt }
object_sound bytes n (objects.Bandwidth Current x) good e = record { rp = tt; end_points = tt; bandwidth = tt; metric = tt; ero = tt; lspa = tt; lsp = tt; srp = tt; request = tt; srp_id = tt }
object_sound bytes n (objects.Metric x) good e = record { rp = tt; end_points = tt; bandwidth = tt; metric = read_normal bytes n (objects.Metric x) good tt e; ero = tt; lspa = tt; lsp = tt; srp = tt; request = tt; srp_id = tt }
object_sound bytes n (objects.Ero x) good e = record { rp = tt; end_points = tt; bandwidth = tt; metric = tt; ero = read_normal bytes n (objects.Ero x) good tt e; lspa = tt; lsp = tt; srp = tt; request = tt; srp_id = tt }
object_sound bytes n (objects.Rro x) good e = record { rp = tt; end_points = tt; bandwidth = tt; metric = tt; ero = tt; lspa = tt; lsp = tt; srp = tt; request = tt; srp_id = tt }
object_sound bytes n (objects.Lspa x) good e = record { rp = tt; end_points = tt; bandwidth = tt; metric = tt; ero = tt; lspa = read_normal bytes n (objects.Lspa x) good tt e; lsp = tt; srp = tt; request = tt; srp_id = tt }
object_sound bytes n (objects.Kept x) good e = record { rp = tt; end_points = tt; bandwidth = tt; metric = tt; ero = tt; lspa = tt; lsp = tt; srp = tt; request = tt; srp_id = tt }
object_sound bytes n (objects.Notification x) good e = record { rp = tt; end_points = tt; bandwidth = tt; metric = tt; ero = tt; lspa = tt; lsp = tt; srp = tt; request = tt; srp_id = tt }
object_sound bytes n (objects.Error x) good e = record { rp = tt; end_points = tt; bandwidth = tt; metric = tt; ero = tt; lspa = tt; lsp = tt; srp = tt; request = tt; srp_id = tt }
object_sound bytes n (objects.Close x) good e = record { rp = tt; end_points = tt; bandwidth = tt; metric = tt; ero = tt; lspa = tt; lsp = tt; srp = tt; request = tt; srp_id = tt }
object_sound bytes n (objects.Lsp x) good e = record { rp = tt; end_points = tt; bandwidth = tt; metric = tt; ero = tt; lspa = tt; lsp = read_normal bytes n (objects.Lsp x) good tt e; srp = tt; request = tt; srp_id = tt }
object_sound bytes n (objects.Srp x) good e = record { rp = tt; end_points = tt; bandwidth = tt; metric = tt; ero = tt; lspa = tt; lsp = tt; srp = read_normal bytes n (objects.Srp x) good tt e; request = tt; srp_id = read_normal bytes n (objects.Srp x) good tt e }

-- ---- all objects

abbrev pub AreSound : List Object → Type 0
AreSound objects = AllByRecursion IsSound objects

followed : (r : Result (Object × ℕ) ObjectFault) (rest : ℕ → Found) → ((n : ℕ) (object : Object) → r ≡ Ok (object, n) → IsSound object)
    → ((n : ℕ) → AreSound (rest n).objects) → AreSound (followed_by false r rest).objects
followed (Ok x) rest each more = (each x.1 x.0 refl, more x.1)
followed (Err fault.Short) rest each more = tt
followed (Err fault.BadLength) rest each more = tt
followed (Err fault.BadTlv) rest each more = tt
followed (Err fault.BadNumber) rest each more = tt
followed (Err (fault.UnknownClass p n)) rest each more = more n
followed (Err (fault.UnknownType p n)) rest each more = more n
followed (Err fault.OutOfMemory) rest each more = tt

found_sound_from : (skip : ℕ) (bytes : List ℕ) → AreBytes bytes → AreSound (found_from false skip bytes).objects
unfolding found_from
found_sound_from skip [] good = tt
found_sound_from (suc skip) (b ∷ bytes) good = found_sound_from skip bytes good.1
found_sound_from zero (b ∷ bytes) good =
    followed (object_at (b ∷ bytes)) (λ n. found_from false (n - 1) bytes) (λ n object e. object_sound (b ∷ bytes) n object good e) (λ n. found_sound_from (n - 1) bytes good.1)

pub found_sound : (bytes : List ℕ) → AreBytes bytes → AreSound (found_in bytes).objects
found_sound bytes good = found_sound_from 0 bytes good
