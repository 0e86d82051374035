-- A value that bytes read as is normal.
use Rattle.std.proofs.Common.{◌≡◌, ℕ, zero, suc, ◌-◌, ◌+◌, ◌/◌, ◌%◌, ◌^◌, ◌≤◌, ◌<◌, ◌⊎◌, inl, inr, Bool, true, false, not, ◌&&◌, ◌||◌, cond, ltb, eqb, List, [], ◌∷◌, length, take, drop, get_or, min, Option, Some, None, Result, Ok, Err, refl, sym, ap, subst, arith}
use Rattle.std.proofs.lemmas.Bool.{and_parts, eqb-true, eqb-false, ltb-false}
use Rattle.std.proofs.lemmas.List.{get_or-drop, length-drop, length-take}
use Rattle.std.specs.Option.{option_map}
use Rattle.std.specs.List.{AllByRecursion}
use Rattle.byteorder.specs.Numbers.{big_from-lt}
use Rattle.pcep_word.specs.Word.{bandwidth_of, bound_of}
use Rattle.pcep_word.proofs.Reading.{bandwidth_is_of, bound_known}
use Rattle.pcep_objects.specs.declared.fault.BodyFault.{BodyFault}
use Rattle.pcep_objects.specs.declared.fault.BodyFault.TheVariants as body
use Rattle.pcep_objects.specs.declared.fault.ObjectFault.TheVariants as fault
use Rattle.pcep_objects.specs.declared.header.Header.{Header}
use Rattle.pcep_objects.specs.declared.kind.Kind.{Kind}
use Rattle.pcep_objects.specs.declared.kind.Kind.TheVariants as kinds
use Rattle.pcep_objects.specs.declared.object.BandwidthType.{BandwidthType}
use Rattle.pcep_objects.specs.declared.object.BandwidthType.TheVariants.{Requested, Current}
use Rattle.pcep_objects.specs.declared.object.KeptClass.{KeptClass}
use Rattle.pcep_objects.specs.declared.object.KeptClass.TheVariants.{Iro, Svec, LoadBalancing}
use Rattle.lsp_words.specs.declared.object.Hop.{Hop}
use Rattle.lsp_words.specs.declared.object.Hop.TheVariants.{Host, Other}
use Rattle.pcep_objects.specs.declared.object.Lspa.{Lspa}
use Rattle.pcep_objects.specs.declared.object.Metric.{Metric}
use Rattle.pcep_objects.specs.declared.object.RsvpError.{RsvpError}
use Rattle.pcep_objects.specs.declared.object.Object.{Object}
use Rattle.pcep_objects.specs.declared.object.Object.TheVariants as objects
use Rattle.pcep_objects.specs.declared.request_objects.Rp.{Rp}
use Rattle.pcep_objects.specs.declared.request_objects.EndPoints.{EndPoints}
use Rattle.pcep_objects.specs.Steps.{◌>>=◌, field, has, cut}
use Rattle.pcep_objects.specs.Tlvs.{Tlv, tlv_size, tlv_at, tlvs_in, skipped_tlvs, first_of, are_sized, first_sized, first_fitting, value_in, fitting_in, identifiers_of, rsvp_error_in}
use Rattle.pcep_objects.specs.Routes.{plain_type, subobject_size, hop_of, hops_of}
use Rattle.pcep_objects.specs.Bodies.{bandwidth_or_bad, bandwidth_body, ero_body, rro_body, lspa_body, operational_of, lsp_body, srp_body, kept}
use Rattle.pcep_objects.specs.SessionObjects.{open_of, close_of, notification_of, error_of}
use Rattle.pcep_objects.specs.RequestObjects.{rp_of, no_path_of, end_points_of, IsRp, IsEndPoints}
use Rattle.pcep_objects.specs.Metrics.{metric_or_bad, metric_of}
use Rattle.pcep_objects.specs.Kinds.{kind_at}
use Rattle.pcep_objects.specs.Objects.{header_at, body_of, sized, with_header, object_at, Reads}
use Rattle.pcep_objects.specs.Spelling.{IsByte, HasWrittenP, IsHop, IsOther, AreIdentifiers, MayBeIdentifiers, MayBeWord, IsRsvpError, MayBeRsvpError, IsNormal}

abbrev AreBytes : List ℕ → Type 0
AreBytes bytes = AllByRecursion IsByte bytes

-- ---- bytes

taken : (n : ℕ) (xs : List ℕ) → AreBytes xs → AreBytes (take n xs)
taken zero xs good = tt
taken (suc n) [] good = tt
taken (suc n) (x ∷ xs) good = (good.0, taken n xs good.1)

dropped : (n : ℕ) (xs : List ℕ) → AreBytes xs → AreBytes (drop n xs)
dropped zero xs good = good
dropped (suc n) [] good = tt
dropped (suc n) (x ∷ xs) good = dropped n xs good.1

byte_at_place : (xs : List ℕ) (i : ℕ) → AreBytes xs → get_or xs i 0 < 256
byte_at_place [] i good = omega arith
byte_at_place (x ∷ xs) zero good = good.0
byte_at_place (x ∷ xs) (suc i) good = byte_at_place xs i good.1

field_below : (i n : ℕ) (xs : List ℕ) → AreBytes xs → field i n xs < 256 ^ n
field_below i n xs good = big_from-lt 0 n (drop i xs) (λ k. byte_at_place (drop i xs) k (dropped i xs good))

-- ---- steps that gave a value

abbrev fine : (E : Type 0) {A : Type 0} → A → Result A E
fine E x = Ok x

ok_is : {A E : Type 0} (x y : A) → fine E x ≡ Ok y → x ≡ y
ok_is x y e = cc

given : {A B E : Type 0} (r : Result A E) (f : A → Result B E) (b : B) → (r >>= f) ≡ Ok b → (a : A) × (r ≡ Ok a) × (f a ≡ Ok b)
given (Ok a) f b e = (a, refl, e)
given (Err y) f b e = cc

mapped : {A B E : Type 0} (r : Result A E) (f : A → B) (b : B) → (r >>= λ a. Ok (f a)) ≡ Ok b → (a : A) × (r ≡ Ok a) × (f a ≡ b)
mapped (Ok a) f b e = (a, refl, ok_is (f a) b e)
mapped (Err y) f b e = cc

passed : {A E : Type 0} (t : Bool) (fault : E) (r : Result A E) (x : A) → cond t (Err fault) r ≡ Ok x → (t ≡ false) × (r ≡ Ok x)
passed true fault r x e = cc
passed false fault r x e = (refl, e)

made : {A B : Type 0} (t : Bool) (r : Result A BodyFault) (y x : B) → cond t (Err body.BadLength) (r >>= λ a. Ok y) ≡ Ok x → y ≡ x
made true r y x e = cc
made false (Ok a) y x e = ok_is y x e
made false (Err f) y x e = cc

measured : {E : Type 0} (a b c : Bool) (fault : E) (m n : ℕ) → cond (a || b || c) (Err fault) (Ok m) ≡ Ok n → (a ≡ false) × (b ≡ false) × (c ≡ false) × (m ≡ n)
measured true b c fault m n e = cc
measured false true c fault m n e = cc
measured false false true fault m n e = cc
measured false false false fault m n e = (refl, refl, refl, ok_is m n e)

not_false : (b : Bool) → not b ≡ false → b ≡ true
not_false true e = refl
not_false false e = cc

-- ---- pieces

all_cut : {A : Type 0} (size : List ℕ → Result ℕ BodyFault) (read : List ℕ → Result A BodyFault) (Good : A → Type 0)
    → ((rest : List ℕ) (n : ℕ) (x : A) → AreBytes rest → size rest ≡ Ok n → read (take n rest) ≡ Ok x → Good x)
    → (skip : ℕ) (bytes : List ℕ) (xs : List A) → AreBytes bytes → cut size read skip bytes ≡ Ok xs → AllByRecursion Good xs
unfolding cut
all_cut size read Good each skip [] xs good e = subst (AllByRecursion Good) (ok_is [] xs e) tt
all_cut size read Good each (suc skip) (b ∷ bytes) xs good e = all_cut size read Good each skip bytes xs good.1 e
all_cut {A} size read Good each zero (b ∷ bytes) xs good e =
    let s = given (size (b ∷ bytes)) (λ (n : ℕ). read (take n (b ∷ bytes)) >>= λ x. cut size read (n - 1) bytes >>= λ ys. Ok (x ∷ ys)) xs e in
    let r = given (read (take s.0 (b ∷ bytes))) (λ (x : A). cut size read (s.0 - 1) bytes >>= λ ys. Ok (x ∷ ys)) xs s.2 in
    let m = mapped (cut size read (s.0 - 1) bytes) (λ (ys : List A). r.0 ∷ ys) xs r.2 in
    subst (AllByRecursion Good) m.2 (each (b ∷ bytes) s.0 r.0 good s.1 r.1, all_cut size read Good each (s.0 - 1) bytes m.0 good.1 m.1)

-- ---- routes

hop_cases : (t u v : Bool) (host other hop : Hop) → cond (t && not u) (Err body.BadLength) (cond (t && v) (Ok host) (Ok other)) ≡ Ok hop
    → (host ≡ hop) ⊎ ((other ≡ hop) × ((t ≡ false) ⊎ ((t ≡ true) × (u ≡ true) × (v ≡ false))))
hop_cases false u v host other hop e = inr (ok_is other hop e, inl refl)
hop_cases true false v host other hop e = cc
hop_cases true true true host other hop e = inl (ok_is host hop e)
hop_cases true true false host other hop e = inr (ok_is other hop e, inr (refl, refl, refl))

host_is : (explicit loose : Bool) (address : ℕ) → address < 2 ^ 32 → (loose ≡ true → explicit ≡ true) → IsHop explicit (Host address loose)
host_is explicit true address small h = (small, h refl)
host_is explicit false address small h = small

other_is : (explicit : Bool) (piece : List ℕ) → (eqb (plain_type explicit (get_or piece 0 0)) 1 ≡ false) ⊎ ((eqb (plain_type explicit (get_or piece 0 0)) 1 ≡ true) × (eqb (length piece) 8 ≡ true) × (eqb (get_or piece 6 0) 32 ≡ false)) → IsOther explicit (get_or piece 0 0) (drop 2 piece)
other_is explicit piece (inl e) = inl (eqb-false _ _ e)
other_is explicit piece (inr e) =
    let eight : length piece ≡ 8 = eqb-true _ _ e.1 in
    let six : length (drop 2 piece) ≡ 6 = omega (arith, length-drop 2 piece) in
    let place : get_or (drop 2 piece) 4 0 ≡ get_or piece 6 0 = get_or-drop 2 piece 4 0 in
    inr (eqb-true _ _ e.0, six, rw place (eqb-false _ _ e.2))

hop_normal : (explicit : Bool) (rest : List ℕ) (n : ℕ) (hop : Hop) → AreBytes rest → subobject_size rest ≡ Ok n → hop_of explicit (take n rest) ≡ Ok hop → IsHop explicit hop
unfolding subobject_size hop_of
hop_normal explicit rest n hop good sized_rest read =
    let m = get_or rest 1 0 in
    let s = measured (ltb m 4) (ltb (length rest) m) (not (eqb (m % 4) 0)) body.BadLength m n sized_rest in
    let four : 4 ≤ m = ltb-false _ _ s.0 in
    let inside : m ≤ length rest = ltb-false _ _ s.1 in
    let whole : m % 4 ≡ 0 = eqb-true _ _ (not_false _ s.2) in
    let piece = take n rest in
    let long : length piece ≡ m = omega (arith, length-take n rest, s.3) in
    let bytes = taken n rest good in
    let kind = get_or piece 0 0 in
    let host = Host (field 2 4 piece) (explicit && has kind 0x80) in
    let other = Other kind (drop 2 piece) in
    elim (hop_cases (eqb (plain_type explicit kind) 1) (eqb (length piece) 8) (eqb (get_or piece 6 0) 32) host other hop read) [
      | inl e ↦ subst (IsHop explicit) e (host_is explicit (explicit && has kind 0x80) (field 2 4 piece) (field_below 2 4 piece bytes) (λ l. (and_parts explicit (has kind 0x80) l).0))
      | inr e ↦
          let back : length (drop 2 piece) + 2 ≡ m = omega (arith, length-drop 2 piece) in
          subst (IsHop explicit) e.0 (omega arith, rw back whole, other_is explicit piece e.1)
    ]

route_normal : (explicit : Bool) (bytes : List ℕ) (hops : List Hop) → AreBytes bytes → hops_of explicit bytes ≡ Ok hops → AllByRecursion (IsHop explicit) hops
unfolding hops_of
route_normal explicit bytes hops good e = all_cut subobject_size (hop_of explicit) (IsHop explicit) (hop_normal explicit) 0 bytes hops good e

-- ---- the TLVs of an LSP

MayBeBytes : Option (List ℕ) → Type 0
MayBeBytes None = Unit {0}
MayBeBytes (Some value) = AreBytes value

identifiers_normal : (value : List ℕ) → AreBytes value → AreIdentifiers (identifiers_of value)
identifiers_normal value good = record {
  sender = field_below 0 4 value good;
  lsp = field_below 4 2 value good;
  tunnel = field_below 6 2 value good;
  extended = field_below 8 4 value good;
  endpoint = field_below 12 4 value good;
}

may_be_identifiers : (value : Option (List ℕ)) → MayBeBytes value → MayBeIdentifiers (option_map identifiers_of value)
unfolding MayBeBytes
may_be_identifiers None good = tt
may_be_identifiers (Some value) good = identifiers_normal value good

HasBytes : Tlv → Type 0
HasBytes tlv = AreBytes tlv.value

tlv_bytes : (rest : List ℕ) (n : ℕ) (tlv : Tlv) → AreBytes rest → tlv_size rest ≡ Ok n → fine BodyFault (tlv_at (take n rest)) ≡ Ok tlv → HasBytes tlv
unfolding HasBytes
tlv_bytes rest n tlv good size read =
    let piece = take n rest in
    subst (λ (t : Tlv). AreBytes t.value) (ok_is (tlv_at piece) tlv read) (taken (field 2 2 piece) (drop 4 piece) (dropped 4 piece (taken n rest good)))

one_of : (b : Bool) (value : List ℕ) (more : Option (List ℕ)) → AreBytes value → MayBeBytes more → MayBeBytes (cond b (Some value) more)
unfolding MayBeBytes
one_of true value more own rest = own
one_of false value more own rest = rest

first_bytes : (number : ℕ) (tlvs : List Tlv) → AllByRecursion HasBytes tlvs → MayBeBytes (first_of number tlvs)
unfolding HasBytes MayBeBytes
first_bytes number [] good = tt
first_bytes number (tlv ∷ tlvs) good = one_of (eqb tlv.number number) tlv.value (first_of number tlvs) good.0 (first_bytes number tlvs good.1)

sized_is_first : (b : Bool) (first found : Option (List ℕ)) → cond b (fine BodyFault first) (Err body.BadTlv) ≡ Ok found → first ≡ found
sized_is_first true first found e = ok_is first found e
sized_is_first false first found e = cc

value_bytes : (number : ℕ) (size : Option ℕ) (bytes : List ℕ) (found : Option (List ℕ)) → AreBytes bytes → value_in number size bytes ≡ Ok found → MayBeBytes found
unfolding value_in tlvs_in
value_bytes number size bytes found good e =
    let g = given (tlvs_in bytes) (first_sized number size) found e in
    let all = all_cut tlv_size (λ tlv. Ok (tlv_at tlv)) HasBytes tlv_bytes 0 bytes g.0 good g.1 in
    subst MayBeBytes (sized_is_first (are_sized number size g.0) (first_of number g.0) found g.2) (first_bytes number g.0 all)

may_be_word : (value : Option (List ℕ)) → MayBeBytes value → MayBeWord (option_map (field 0 4) value)
unfolding MayBeBytes
may_be_word None good = tt
may_be_word (Some value) good = field_below 0 4 value good

error_if : (is : Bool) (error : RsvpError) → IsRsvpError error → MayBeRsvpError (cond is (Some error) None)
error_if true error good = good
error_if false error good = tt

may_be_error : (value : Option (List ℕ)) → MayBeBytes value → MayBeRsvpError (rsvp_error_in value)
unfolding MayBeBytes
may_be_error None good = tt
may_be_error (Some value) good = error_if (eqb (field 0 4 value) 0x000C0601) _ (record { node = field_below 4 4 value good; value = field_below 10 2 value good })

fitting_bytes_in : (number size : ℕ) (tlvs : List Tlv) → AllByRecursion HasBytes tlvs → MayBeBytes (first_fitting number size tlvs)
unfolding HasBytes MayBeBytes
fitting_bytes_in number size [] good = tt
fitting_bytes_in number size (tlv ∷ tlvs) good = one_of (eqb tlv.number number && eqb (length tlv.value) size) tlv.value (first_fitting number size tlvs) good.0 (fitting_bytes_in number size tlvs good.1)

fitting_bytes : (number size : ℕ) (bytes : List ℕ) (found : Option (List ℕ)) → AreBytes bytes → fitting_in number size bytes ≡ Ok found → MayBeBytes found
unfolding fitting_in tlvs_in
fitting_bytes number size bytes found good e =
    let m = mapped (tlvs_in bytes) (first_fitting number size) found e in
    let all = all_cut tlv_size (λ tlv. Ok (tlv_at tlv)) HasBytes tlv_bytes 0 bytes m.0 good m.1 in
    subst MayBeBytes m.2 (fitting_bytes_in number size m.0 all)

-- ---- bodies

abbrev rp_read : Bool → List ℕ → Rp
rp_read p bytes = record {
  p = p;
  priority = field 0 4 bytes % 2 ^ 3;
  reoptimize = has (field 0 4 bytes) 0x08;
  bidirectional = has (field 0 4 bytes) 0x10;
  loose = has (field 0 4 bytes) 0x20;
  id = field 4 4 bytes;
}

rp_normal : (p : Bool) (bytes : List ℕ) (rp : Rp) → AreBytes bytes → rp_of p bytes ≡ Ok rp → IsRp rp
unfolding rp_of
rp_normal p bytes rp good e =
    subst IsRp (made (ltb (length bytes) 8) (skipped_tlvs (drop 8 bytes)) (rp_read p bytes) rp e) (record { priority = omega arith; id = field_below 4 4 bytes good })

abbrev ends_read : Bool → List ℕ → EndPoints
ends_read p bytes = record { p = p; source = field 0 4 bytes; destination = field 4 4 bytes }

ends_normal : (p : Bool) (bytes : List ℕ) (ends : EndPoints) → AreBytes bytes → end_points_of p bytes ≡ Ok ends → IsEndPoints ends
unfolding end_points_of
ends_normal p bytes ends good e =
    let q = passed (not (eqb (length bytes) 8)) body.BadLength (Ok (ends_read p bytes)) ends e in
    subst IsEndPoints (ok_is (ends_read p bytes) ends q.1) (record { source = field_below 0 4 bytes good; destination = field_below 4 4 bytes good })

bandwidth_found : (kind : BandwidthType) (w : ℕ) (o : Option ℕ) (object : Object) → bandwidth_of w ≡ o → bandwidth_or_bad kind o ≡ Ok object → IsNormal object
bandwidth_found kind w None object is e = cc
bandwidth_found kind w (Some v) object is e = subst IsNormal (ok_is (objects.Bandwidth kind v) object e) (bandwidth_is_of w v is)

bandwidth_normal : (kind : BandwidthType) (bytes : List ℕ) (object : Object) → bandwidth_body kind bytes ≡ Ok object → IsNormal object
unfolding bandwidth_body
bandwidth_normal kind bytes object e =
    let w = field 0 4 bytes in
    bandwidth_found kind w (bandwidth_of w) object refl (passed (not (eqb (length bytes) 4)) body.BadLength (bandwidth_or_bad kind (bandwidth_of w)) object e).1

abbrev metric_read : List ℕ → ℕ → Metric
metric_read bytes value = record { bound = has (get_or bytes 2 0) 0x01; computed = has (get_or bytes 2 0) 0x02; metric_type = get_or bytes 3 0; value = value }

metric_found : (bytes : List ℕ) (w : ℕ) (o : Option ℕ) (metric : Metric) → bound_of w ≡ o → metric_or_bad bytes o ≡ Ok metric → IsNormal (objects.Metric metric)
metric_found bytes w None metric is e = cc
metric_found bytes w (Some v) metric is e = subst (λ (m : Metric). IsNormal (objects.Metric m)) (ok_is (metric_read bytes v) metric e) (bound_known w v is)

metric_normal : (bytes : List ℕ) (metric : Metric) → metric_of bytes ≡ Ok metric → IsNormal (objects.Metric metric)
unfolding metric_of
metric_normal bytes metric e =
    let w = field 4 4 bytes in
    metric_found bytes w (bound_of w) metric refl (passed (not (eqb (length bytes) 8)) body.BadLength (metric_or_bad bytes (bound_of w)) metric e).1

ero_normal : (bytes : List ℕ) (object : Object) → AreBytes bytes → ero_body bytes ≡ Ok object → IsNormal object
unfolding ero_body
ero_normal bytes object good e =
    let m = mapped (hops_of true bytes) (λ (hops : List Hop). objects.Ero hops) object e in
    subst IsNormal m.2 (route_normal true bytes m.0 good m.1)

rro_normal : (bytes : List ℕ) (object : Object) → AreBytes bytes → rro_body bytes ≡ Ok object → IsNormal object
unfolding rro_body
rro_normal bytes object good e =
    let m = mapped (hops_of false bytes) (λ (hops : List Hop). objects.Rro hops) object e in
    subst IsNormal m.2 (route_normal false bytes m.0 good m.1)

abbrev lspa_read : List ℕ → Lspa
lspa_read bytes = record {
  colours = record { exclude_any = field 0 4 bytes; include_any = field 4 4 bytes; include_all = field 8 4 bytes };
  setup = min (get_or bytes 12 0) 7;
  hold = min (get_or bytes 13 0) 7;
  local_protection = has (get_or bytes 14 0) 0x01;
}

lspa_normal : (bytes : List ℕ) (object : Object) → AreBytes bytes → lspa_body bytes ≡ Ok object → IsNormal object
unfolding lspa_body
lspa_normal bytes object good e =
    subst IsNormal (made (ltb (length bytes) 16) (skipped_tlvs (drop 16 bytes)) (objects.Lspa (lspa_read bytes)) object e) (record {
      exclude_any = field_below 0 4 bytes good;
      include_any = field_below 4 4 bytes good;
      include_all = field_below 8 4 bytes good;
      setup = omega arith;
      hold = omega arith;
    })

abbrev lsp_read : List ℕ → Option (List ℕ) → Option (List ℕ) → Option (List ℕ) → Option (List ℕ) → Object
lsp_read bytes identifiers name error_code rsvp_error = objects.Lsp (record {
  plsp = field 0 4 bytes / 2 ^ 12;
  delegate = has (field 0 4 bytes) 0x001;
  sync = has (field 0 4 bytes) 0x002;
  remove = has (field 0 4 bytes) 0x004;
  admin = has (field 0 4 bytes) 0x008;
  operational = operational_of (field 0 4 bytes);
  created = has (field 0 4 bytes) 0x080;
  name = name;
  identifiers = option_map identifiers_of identifiers;
  error_code = option_map (field 0 4) error_code;
  rsvp_error = rsvp_error_in rsvp_error;
})

lsp_normal : (bytes : List ℕ) (object : Object) → AreBytes bytes → lsp_body bytes ≡ Ok object → IsNormal object
unfolding lsp_body
lsp_normal bytes object good e =
    let tlvs = drop 4 bytes in
    let inside = dropped 4 bytes good in
    let errors : Option (List ℕ) → Option (List ℕ) → Result Object BodyFault = λ identifiers name. fitting_in 20 4 tlvs >>= λ code. fitting_in 21 12 tlvs >>= λ error. Ok (lsp_read bytes identifiers name code error) in
    let p = passed (ltb (length bytes) 4) body.BadLength (value_in 18 (Some 16) tlvs >>= λ identifiers. value_in 17 None tlvs >>= errors identifiers) object e in
    let g = given (value_in 18 (Some 16) tlvs) (λ (identifiers : Option (List ℕ)). value_in 17 None tlvs >>= errors identifiers) object p.1 in
    let h = given (value_in 17 None tlvs) (errors g.0) object g.2 in
    let i = given (fitting_in 20 4 tlvs) (λ (code : Option (List ℕ)). fitting_in 21 12 tlvs >>= λ error. Ok (lsp_read bytes g.0 h.0 code error)) object h.2 in
    let m = mapped (fitting_in 21 12 tlvs) (lsp_read bytes g.0 h.0 i.0) object i.2 in
    let word : field 0 4 bytes < 4294967296 = field_below 0 4 bytes good in
    subst IsNormal m.2 (record {
      plsp = omega arith;
      identifiers = may_be_identifiers g.0 (value_bytes 18 (Some 16) tlvs g.0 inside g.1);
      error_code = may_be_word i.0 (fitting_bytes 20 4 tlvs i.0 inside i.1);
      rsvp_error = may_be_error m.0 (fitting_bytes 21 12 tlvs m.0 inside m.1);
    })

srp_normal : (bytes : List ℕ) (object : Object) → AreBytes bytes → srp_body bytes ≡ Ok object → IsNormal object
unfolding srp_body
srp_normal bytes object good e =
    subst IsNormal (made (ltb (length bytes) 8) (skipped_tlvs (drop 8 bytes)) (objects.Srp (record { remove = has (field 0 4 bytes) 0x1; id = field 4 4 bytes })) object e) (field_below 4 4 bytes good)

kept_normal : (class : KeptClass) (p : Bool) (bytes : List ℕ) (object : Object) → length bytes % 4 ≡ 0 → HasWrittenP object → fine BodyFault (kept class p bytes) ≡ Ok object → IsNormal object
kept_normal class p bytes object whole clear e =
    let is = ok_is (kept class p bytes) object e in
    subst IsNormal is (record { p = subst HasWrittenP (sym is) clear; whole = whole })

body_normal : (kind : Kind) (p : Bool) (bytes : List ℕ) (object : Object) → AreBytes bytes → length bytes % 4 ≡ 0 → HasWrittenP object → body_of kind p bytes ≡ Ok object → IsNormal object
body_normal kinds.Open p bytes object good whole clear e = subst IsNormal (mapped (open_of bytes) (λ x. objects.Open x) object e).2 tt
body_normal kinds.Rp p bytes object good whole clear e = let m = mapped (rp_of p bytes) (λ x. objects.Rp x) object e in subst IsNormal m.2 (rp_normal p bytes m.0 good m.1)
body_normal kinds.NoPath p bytes object good whole clear e = subst IsNormal (mapped (no_path_of bytes) (λ x. objects.NoPath x) object e).2 tt
body_normal kinds.EndPoints p bytes object good whole clear e =
    let m = mapped (end_points_of p bytes) (λ x. objects.EndPoints x) object e in
    subst IsNormal m.2 (subst HasWrittenP (sym m.2) clear, ends_normal p bytes m.0 good m.1)
body_normal kinds.RequestedBandwidth p bytes object good whole clear e = bandwidth_normal Requested bytes object e
body_normal kinds.CurrentBandwidth p bytes object good whole clear e = bandwidth_normal Current bytes object e
body_normal kinds.Metric p bytes object good whole clear e = let m = mapped (metric_of bytes) (λ x. objects.Metric x) object e in subst IsNormal m.2 (metric_normal bytes m.0 m.1)
body_normal kinds.Ero p bytes object good whole clear e = ero_normal bytes object good e
body_normal kinds.Rro p bytes object good whole clear e = rro_normal bytes object good e
body_normal kinds.Lspa p bytes object good whole clear e = lspa_normal bytes object good e
body_normal kinds.Iro p bytes object good whole clear e = kept_normal Iro p bytes object whole clear e
body_normal kinds.Svec p bytes object good whole clear e = kept_normal Svec p bytes object whole clear e
body_normal kinds.Notification p bytes object good whole clear e = subst IsNormal (mapped (notification_of bytes) (λ x. objects.Notification x) object e).2 tt
body_normal kinds.Error p bytes object good whole clear e = subst IsNormal (mapped (error_of bytes) (λ x. objects.Error x) object e).2 tt
body_normal kinds.LoadBalancing p bytes object good whole clear e = kept_normal LoadBalancing p bytes object whole clear e
body_normal kinds.Close p bytes object good whole clear e = subst IsNormal (mapped (close_of bytes) (λ x. objects.Close x) object e).2 tt
body_normal kinds.Lsp p bytes object good whole clear e = lsp_normal bytes object good e
body_normal kinds.Srp p bytes object good whole clear e = srp_normal bytes object good e

-- ---- headers

sized_is : (n m : ℕ) (r : Result Object BodyFault) (object : Object) → sized n r ≡ Ok (object, m) → r ≡ Ok object
sized_is n m (Ok o) object e = ap (λ (x : Object). Ok x) (ap (λ (x : Object × ℕ). x.0) (ok_is (o, n) (object, m) e))
sized_is n m (Err f) object e = cc

with_kind : (h : Header) (o : Option Kind) (bytes : List ℕ) (object : Object) (n : ℕ) → with_header h o bytes ≡ Ok (object, n) → (kind : Kind) × (body_of kind h.p bytes ≡ Ok object)
with_kind h None bytes object n e = cc
with_kind h (Some kind) bytes object n e = (kind, sized_is h.size n (body_of kind h.p bytes) object e)

headed : (a b c d : Bool) (m h : Header) → cond a (Err fault.Short) (cond (b || c || d) (Err fault.BadLength) (Ok m)) ≡ Ok h → (b ≡ false) × (c ≡ false) × (d ≡ false) × (m ≡ h)
headed true b c d m h e = cc
headed false true c d m h e = cc
headed false false true d m h e = cc
headed false false false true m h e = cc
headed false false false false m h e = (refl, refl, refl, ok_is m h e)

header_whole : (bytes : List ℕ) (h : Header) → header_at bytes ≡ Ok h → length (take (h.size - 4) (drop 4 bytes)) % 4 ≡ 0
unfolding header_at
header_whole bytes h e =
    let n = field 2 2 bytes in
    let m : Header = record { class = get_or bytes 0 0; object_type = get_or bytes 1 0 / 2 ^ 4; p = has (get_or bytes 1 0) 0x2; size = n } in
    let s = headed (ltb (length bytes) 4) (ltb n 4) (ltb (length bytes) n) (not (eqb (n % 4) 0)) m h e in
    let four : 4 ≤ n = ltb-false _ _ s.0 in
    let inside : n ≤ length bytes = ltb-false _ _ s.1 in
    let whole : n % 4 ≡ 0 = eqb-true _ _ (not_false _ s.2) in
    let size : n ≡ h.size = ap (λ (x : Header). x.size) s.3 in
    let len : length (take (h.size - 4) (drop 4 bytes)) ≡ n - 4 = omega (arith, length-take (h.size - 4) (drop 4 bytes), length-drop 4 bytes) in
    omega arith

pub read_normal : (bytes : List ℕ) (n : ℕ) (object : Object) → AreBytes bytes → HasWrittenP object → Reads bytes n object → IsNormal object
unfolding object_at
read_normal bytes n object good clear e =
    let p = given (header_at bytes) (λ (h : Header). with_header h (kind_at h.class h.object_type) (take (h.size - 4) (drop 4 bytes))) (object, n) e in
    let h = p.0 in
    let inner = take (h.size - 4) (drop 4 bytes) in
    let k = with_kind h (kind_at h.class h.object_type) inner object n p.2 in
    body_normal k.0 h.p inner object (taken (h.size - 4) (drop 4 bytes) (dropped 4 bytes good)) (header_whole bytes h p.1) clear k.1
