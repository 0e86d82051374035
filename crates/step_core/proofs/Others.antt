-- Changes of one peer's paths, records and sessions leave those of all other peers.
use Rattle.std.proofs.Common.{◌≡◌, ◌==◌, ◌&&◌, ℕ, Bool, true, false, cond, List, [], ◌∷◌, ◌++◌, IsPermutation, refl, sym, subst, ◌∙◌, ap, map, arith}
use Rattle.std.specs.Prelude.{filter, not, Option, Some, None, find, unwrap_or}
use Rattle.std.proofs.lemmas.Bool.{not-true}
use Rattle.std.proofs.lemmas.List.Elements.{filter-append}
use Rattle.std.proofs.lemmas.List.Sorted.{IsPermutation-refl, IsPermutation-trans}
use Rattle.std.proofs.lemmas.Bool.Decides.{nat_tests}
use Rattle.lsp_base.specs.Same.{same_path}
use Rattle.lsp_base.specs.Lsps.{Lsps, AreDistinct, without_path, without, is_record_of, lsp_at, put, taken_away, set_record, set_records, changed, made_stale, with_stale}
use Rattle.lsp_base.specs.declared.path.Path.{Path}
use Rattle.lsp_base.specs.declared.lsp.Lsp.{Lsp}
use Rattle.lsp_base.specs.declared.effect.Record.{Record}
use Rattle.lsp_base.specs.declared.effect.RecordChange.{RecordChange}
use Rattle.lsp_base.specs.declared.effect.Effect.{Effect}
use Rattle.lsp_base.proofs.Swapped.{without_first-others}
use Rattle.lsp_base.proofs.Distinct.{set_records_known}
use Rattle.step_core.specs.States.{is_peer, unknown_peer, peer_at, put_peer}
use Rattle.step_core.specs.declared.peer.Peer.{Peer}

pub same_number : (n : ℕ) → (n == n) ≡ true
same_number n = grind (arith, nat_tests)

pub first_of_both : (a b : Bool) → (a && b) ≡ true → a ≡ true
first_of_both true b h = refl
first_of_both false b h = cc

-- an item that fails a test is not among those that pass it
pub filter-skip : {X : Type 0} (test : X → Bool) (x : X) (xs : List X) → test x ≡ false → filter test (x ∷ xs) ≡ filter test xs
filter-skip test x xs out = ap (λ b. cond b (x ∷ filter test xs) (filter test xs)) out

pub filter-both : {X : Type 0} (test : X → Bool) (x : X) (xs ys : List X) → filter test xs ≡ filter test ys → filter test (x ∷ xs) ≡ filter test (x ∷ ys)
filter-both test x xs ys same = ap (λ t. cond (test x) (x ∷ t) t) same

-- ---- paths

abbrev pub other_paths : ℕ → List Path → List Path
other_paths n xs = filter (λ x. not (x.peer == n)) xs

-- each of the paths is the peer's
abbrev pub AllOwn : ℕ → List Path → Type 0
AllOwn n [] = Unit {0}
AllOwn n (x ∷ xs) = ((x.peer == n) ≡ true) × AllOwn n xs

pub other_paths-own : (n : ℕ) (xs : List Path) → AllOwn n xs → other_paths n xs ≡ []
other_paths-own n [] own = refl
other_paths-own n (x ∷ xs) own = filter-skip (λ y. not (y.peer == n)) x xs (ap not own.0) ∙ other_paths-own n xs own.1

-- paths that pass a test that only paths of the peer pass are the peer's
own_chosen : (n : ℕ) (test : Path → Bool) (x : Path) (xs : List Path) (b : Bool) → test x ≡ b → ((y : Path) → test y ≡ true → (y.peer == n) ≡ true) → AllOwn n xs → AllOwn n (cond b (x ∷ xs) xs)
own_chosen n test x xs true is own all = (own x is, all)
own_chosen n test x xs false is own all = all

pub AllOwn-filter : (n : ℕ) (test : Path → Bool) (xs : List Path) → ((y : Path) → test y ≡ true → (y.peer == n) ≡ true) → AllOwn n (filter test xs)
AllOwn-filter n test [] own = tt
AllOwn-filter n test (x ∷ xs) own = own_chosen n test x (filter test xs) (test x) refl own (AllOwn-filter n test xs own)

pub AllOwn-map : (n : ℕ) (f : Path → Path) (xs : List Path) → ((y : Path) → (f y).peer ≡ y.peer) → AllOwn n xs → AllOwn n (map f xs)
AllOwn-map n f [] keeps all = tt
AllOwn-map n f (x ∷ xs) keeps all = (ap (λ p. p == n) (keeps x) ∙ all.0, AllOwn-map n f xs keeps all.1)

same_path-peer : (x d : Path) → same_path x d ≡ true → (x.peer == d.peer) ≡ true
same_path-peer x d = grind (arith, nat_tests)

own_too : (n p q : ℕ) → (p == q) ≡ true → (q == n) ≡ true → (p == n) ≡ true
own_too n p q = grind (arith, nat_tests)

without_path-others : (n : ℕ) (d : Path) (xs : List Path) → (d.peer == n) ≡ true → IsPermutation (other_paths n xs) (other_paths n (without_path d xs))
without_path-others n d xs own = without_first-others (λ x. not (x.peer == n)) (λ x. same_path x d) (λ x is. ap not (own_too n x.peer d.peer (same_path-peer x d is) own)) xs

pub without-others : (n : ℕ) (xs ds : List Path) → AllOwn n ds → IsPermutation (other_paths n xs) (other_paths n (without xs ds))
without-others n xs [] own = IsPermutation-refl (other_paths n xs)
without-others n xs (d ∷ ds) own = IsPermutation-trans _ _ _ (without_path-others n d xs own.0) (without-others n (without_path d xs) ds own.1)

stale_one : (n : ℕ) (x : Path) (xs ys : List Path) (own : Bool) → (x.peer == n) ≡ own → other_paths n ys ≡ other_paths n xs → other_paths n (cond own (record x { fresh = false }) x ∷ ys) ≡ other_paths n (x ∷ xs)
stale_one n x xs ys true is rest =
    let staled : Path = record x { fresh = false } in
    filter-skip (λ y. not (y.peer == n)) staled ys (ap not is) ∙ rest ∙ sym (filter-skip (λ y. not (y.peer == n)) x xs (ap not is))
stale_one n x xs ys false is rest = filter-both (λ y. not (y.peer == n)) x ys xs rest

pub stale-others : (n : ℕ) (xs : List Path) → other_paths n (map (made_stale n) xs) ≡ other_paths n xs
stale-others n [] = refl
stale-others n (x ∷ xs) = stale_one n x xs (map (made_stale n) xs) (x.peer == n) refl (stale-others n xs)

-- ---- records

abbrev pub other_records : ℕ → List Record → List Record
other_records n rs = filter (λ r. not (r.peer == n)) rs

record_peer : (n plsp : ℕ) (r : Record) → is_record_of n plsp r ≡ true → (r.peer == n) ≡ true
record_peer n plsp r is = first_of_both (r.peer == n) (r.plsp == plsp) is

put_one : (n plsp : ℕ) (lsp : Lsp) (r : Record) (rs ss : List Record) (here : Bool) → is_record_of n plsp r ≡ here → other_records n ss ≡ other_records n rs → other_records n (cond here (record { peer = n; plsp = plsp; lsp = lsp } ∷ rs) (r ∷ ss)) ≡ other_records n (r ∷ rs)
put_one n plsp lsp r rs ss true is rest =
    let set : Record = record { peer = n; plsp = plsp; lsp = lsp } in
    filter-skip (λ q. not (q.peer == n)) set rs (ap not (same_number n)) ∙ sym (filter-skip (λ q. not (q.peer == n)) r rs (ap not (record_peer n plsp r is)))
put_one n plsp lsp r rs ss false is rest = filter-both (λ q. not (q.peer == n)) r ss rs rest

put-others : (n plsp : ℕ) (lsp : Lsp) (rs : List Record) → other_records n (put rs n plsp lsp) ≡ other_records n rs
put-others n plsp lsp [] = let set : Record = record { peer = n; plsp = plsp; lsp = lsp } in filter-skip (λ q. not (q.peer == n)) set [] (ap not (same_number n))
put-others n plsp lsp (r ∷ rs) = put_one n plsp lsp r rs (put rs n plsp lsp) (is_record_of n plsp r) refl (put-others n plsp lsp rs)

taken_away-others : (n plsp : ℕ) (rs : List Record) → IsPermutation (other_records n rs) (other_records n (taken_away rs n plsp))
taken_away-others n plsp rs = without_first-others (λ r. not (r.peer == n)) (is_record_of n plsp) (λ r is. ap not (record_peer n plsp r is)) rs

set_record-others : (n : ℕ) (rs : List Record) (plsp : ℕ) (lsp : Option Lsp) → IsPermutation (other_records n rs) (other_records n (set_record n rs plsp lsp))
set_record-others n rs plsp None = taken_away-others n plsp rs
set_record-others n rs plsp (Some lsp) = subst (IsPermutation (other_records n rs)) (sym (put-others n plsp lsp rs)) (IsPermutation-refl (other_records n rs))

pub set_records-others : (n : ℕ) (rs : List Record) (cs : List RecordChange) → IsPermutation (other_records n rs) (other_records n (set_records n rs cs))
set_records-others n rs [] = IsPermutation-refl (other_records n rs)
set_records-others n rs (c ∷ cs) = IsPermutation-trans _ _ _ (set_record-others n rs c.plsp c.lsp) (set_records-others n (set_record n rs c.plsp c.lsp) cs)

-- ---- peers

abbrev pub other_peers : ℕ → List Peer → List Peer
other_peers n ps = filter (λ p. not (is_peer n p)) ps

found_peer : (n : ℕ) (q : Peer) (o : Option Peer) (b : Bool) → is_peer n q ≡ b → ((unwrap_or o (unknown_peer n)).number == n) ≡ true → ((unwrap_or (cond b (Some q) o) (unknown_peer n)).number == n) ≡ true
found_peer n q o true is rest = is
found_peer n q o false is rest = rest

pub peer_at-number : (n : ℕ) (ps : List Peer) → ((peer_at ps n).number == n) ≡ true
peer_at-number n [] = same_number n
peer_at-number n (q ∷ ps) = found_peer n q (find (is_peer n) ps) (is_peer n q) refl (peer_at-number n ps)

set_one : (n : ℕ) (p q : Peer) (ps qs : List Peer) (here : Bool) → is_peer p.number q ≡ here → (p.number == n) ≡ true → other_peers n qs ≡ other_peers n ps → other_peers n (cond here (p ∷ ps) (q ∷ qs)) ≡ other_peers n (q ∷ ps)
set_one n p q ps qs true is own rest =
    filter-skip (λ r. not (is_peer n r)) p ps (ap not own) ∙ sym (filter-skip (λ r. not (is_peer n r)) q ps (ap not (own_too n q.number p.number is own)))
set_one n p q ps qs false is own rest = filter-both (λ r. not (is_peer n r)) q qs ps rest

pub put_peer-others : (n : ℕ) (p : Peer) (ps : List Peer) → (p.number == n) ≡ true → other_peers n (put_peer ps p) ≡ other_peers n ps
put_peer-others n p [] own = filter-skip (λ r. not (is_peer n r)) p [] (ap not own)
put_peer-others n p (q ∷ ps) own = set_one n p q ps (put_peer ps p) (is_peer p.number q) refl own (put_peer-others n p ps own)

forget_one : (n : ℕ) (q : Peer) (ps : List Peer) (b : Bool) → not (is_peer n q) ≡ b → other_peers n ps ≡ ps → other_peers n (cond b (q ∷ ps) ps) ≡ cond b (q ∷ ps) ps
forget_one n q ps true is rest = ap (λ b. cond b (q ∷ other_peers n ps) (other_peers n ps)) is ∙ ap (λ t. q ∷ t) rest
forget_one n q ps false is rest = rest

-- forgetting a peer twice is forgetting it once
pub forget-others : (n : ℕ) (ps : List Peer) → other_peers n (other_peers n ps) ≡ other_peers n ps
forget-others n [] = refl
forget-others n (q ∷ ps) = forget_one n q (other_peers n ps) (not (is_peer n q)) refl (forget-others n ps)

-- ---- effects

-- the effect drops and adds only paths of the peer
pub record IsOwn (n : ℕ) (e : Effect) : Type 0 where
  pub dropped : AllOwn n e.change.dropped
  pub added : AllOwn n e.change.added

pub append-nil : {X : Type 0} (xs : List X) → xs ++ [] ≡ xs
append-nil [] = refl
append-nil (x ∷ xs) = ap (λ t. x ∷ t) (append-nil xs)

pub changed-paths : (n : ℕ) (base : Lsps) (e : Effect) → IsOwn n e → IsPermutation (other_paths n base.paths) (other_paths n (changed base n e).paths)
unfolding changed
changed-paths n base e own =
    let left = without base.paths e.change.dropped in
    let same : other_paths n left ≡ other_paths n (left ++ e.change.added)
    = sym (filter-append (λ x. not (x.peer == n)) left e.change.added ∙ ap (λ t. other_paths n left ++ t) (other_paths-own n e.change.added own.added) ∙ append-nil (other_paths n left)) in
    subst (IsPermutation (other_paths n base.paths)) same (without-others n base.paths e.change.dropped own.dropped)

pub changed-records : (n : ℕ) (base : Lsps) (e : Effect) → IsPermutation (other_records n base.records) (other_records n (changed base n e).records)
unfolding changed
changed-records n base e = set_records-others n base.records e.records

pub changed-known : (n : ℕ) (base : Lsps) (e : Effect) → AreDistinct base.records → (m plsp : ℕ) → not (m == n) ≡ true → lsp_at (changed base n e).records m plsp ≡ lsp_at base.records m plsp
unfolding changed
changed-known n base e distinct m plsp other = set_records_known m n (not-true (m == n) other) plsp base.records e.records distinct

pub with_stale-paths : (n : ℕ) (base : Lsps) → other_paths n (with_stale base n).paths ≡ other_paths n base.paths
unfolding with_stale
with_stale-paths n base = stale-others n base.paths

pub with_stale-records : (n : ℕ) (base : Lsps) → (with_stale base n).records ≡ base.records
unfolding with_stale
with_stale-records n base = refl
