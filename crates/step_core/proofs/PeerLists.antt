-- Peers in a list, at the place of a number.
use Rattle.std.proofs.Common.{◌≡◌, ◌==◌, ℕ, ◌+◌, ◌<◌, Bool, List, [], ◌∷◌, ◌++◌, length, set, get_or, sym, ◌∙◌, ap, true, false, suc, cond, refl, arith, nat_lt}
use Rattle.std.specs.Prelude.{Option, Some, None, find, position, unwrap_or, is_some, not, slice_get}
use Rattle.std.specs.List.{position_or_len}
use Rattle.std.proofs.lemmas.Grind.{common_steps}
use Rattle.std.proofs.lemmas.Bool.Decides.{nat_tests}
use Rattle.std.proofs.lemmas.List.Folds.{find_at}
use Rattle.std.proofs.lemmas.List.Quantifiers.{position-Some}
use Rattle.std.proofs.lemmas.Option.{slice_get-get_or}
use Rattle.step_core.specs.States.{put_peer, is_peer, is_known, peer_at, unknown_peer}
use Rattle.step_core.specs.declared.peer.Peer.{Peer}

same_number : (a b : ℕ) → (a == b) ≡ true → a ≡ b
same_number a b is = grind (arith, nat_tests)

one_more : (k : ℕ) → 1 + k ≡ suc k
one_more k = omega arith

put_by_test : (p q : Peer) (ps : List Peer) (k : ℕ) (b : Bool) → cond (not b) (1 + k) 0 < length (q ∷ ps) → (k < length ps → set ps k p ≡ put_peer ps p) → set (q ∷ ps) (cond (not b) (1 + k) 0) p ≡ cond b (p ∷ ps) (q ∷ put_peer ps p)
put_by_test p q ps k true within rest = refl
put_by_test p q ps k false within rest = ap (λ j. set (q ∷ ps) j p) (one_more k) ∙ ap (λ t. q ∷ t) (rest (omega arith))

-- the peer is set at the first place of its number
put_first : (p : Peer) (ps : List Peer) → position_or_len (is_peer p.number) ps < length ps → set ps (position_or_len (is_peer p.number) ps) p ≡ put_peer ps p
put_first p [] within = absurd (omega arith)
put_first p (q ∷ ps) within = put_by_test p q ps (position_or_len (is_peer p.number) ps) (is_peer p.number q) within (put_first p ps)

place_is : (n i : ℕ) (ps : List Peer) → position (is_peer n) ps ≡ Some i → position_or_len (is_peer n) ps ≡ i
place_is n i ps is = grind (arith, common_steps)

place_within : (n i : ℕ) (ps : List Peer) → position (is_peer n) ps ≡ Some i → i < length ps
place_within n i ps is = grind (arith, common_steps)

-- the peer that is found stands at its place
pub found_there : (n i : ℕ) (ps : List Peer) (d : Peer) → position (is_peer n) ps ≡ Some i → find (is_peer n) ps ≡ Some (get_or ps i d)
found_there n i ps d is = find_at (is_peer n) ps ∙ ap (λ k. slice_get ps k) (place_is n i ps is) ∙ slice_get-get_or ps i d (place_within n i ps is)

peer_there : (n i : ℕ) (ps : List Peer) (d : Peer) → position (is_peer n) ps ≡ Some i → peer_at ps n ≡ get_or ps i d
peer_there n i ps d is = ap (λ o. unwrap_or o (unknown_peer n)) (found_there n i ps d is)

-- the peer at the place is changed there, and keeps its number
pub put_there : (n i : ℕ) (ps : List Peer) (q : Peer) (change : Peer → Peer) → ((p : Peer) → (change p).number ≡ p.number) → position (is_peer n) ps ≡ Some i → q ≡ get_or ps i q → set ps i (change q) ≡ put_peer ps (change (peer_at ps n))
put_there n i ps q change keeps is there =
    let same : peer_at ps n ≡ q = peer_there n i ps q is ∙ sym there in
    let number : (change q).number ≡ n = keeps q ∙ ap (λ (p : Peer). p.number) there ∙ same_number (get_or ps i q).number n (position-Some (is_peer n) ps i q is).1 in
    let at : position_or_len (is_peer (change q).number) ps ≡ i = ap (λ k. position_or_len (is_peer k) ps) number ∙ place_is n i ps is in
    let within : position_or_len (is_peer (change q).number) ps < length ps = rw at (place_within n i ps is) in
    ap (λ k. set ps k (change q)) (sym at) ∙ put_first (change q) ps within ∙ ap (λ p. put_peer ps (change p)) (sym same)

pub there_is : (n i : ℕ) (ps : List Peer) (q : Peer) → position (is_peer n) ps ≡ Some i → q ≡ get_or ps i q → peer_at ps n ≡ q
there_is n i ps q is there = peer_there n i ps q is ∙ sym there

place_later : (k m : ℕ) → cond {A = Option ℕ} (nat_lt (1 + k) (suc m)) (Some (1 + k)) None ≡ None → cond {A = Option ℕ} (nat_lt k m) (Some k) None ≡ None
place_later k m is = grind (arith, common_steps)

first_place : (m : ℕ) → cond {A = Option ℕ} (nat_lt 0 (suc m)) (Some 0) None ≡ Some 0
first_place m = grind (arith, common_steps)

not_found_by_test : (q : Peer) (o : Option Peer) (k m : ℕ) (b : Bool) → cond {A = Option ℕ} (nat_lt (cond (not b) (1 + k) 0) (suc m)) (Some (cond (not b) (1 + k) 0)) None ≡ None → (cond {A = Option ℕ} (nat_lt k m) (Some k) None ≡ None → o ≡ None) → cond b (Some q) o ≡ None
not_found_by_test q o k m true is rest = absurd (cc (is, first_place m))
not_found_by_test q o k m false is rest = rest (place_later k m is)

-- a peer that has no place isn't known
pub not_found : (n : ℕ) (ps : List Peer) → position (is_peer n) ps ≡ None → find (is_peer n) ps ≡ None
not_found n [] is = refl
not_found n (q ∷ ps) is = not_found_by_test q (find (is_peer n) ps) (position_or_len (is_peer n) ps) (length ps) (is_peer n q) is (not_found n ps)

pub not_known : (n : ℕ) (ps : List Peer) → position (is_peer n) ps ≡ None → is_known ps n ≡ false
not_known n ps is = ap (λ (o : Option Peer). is_some o) (not_found n ps is)

last_by_test : (p q : Peer) (ps : List Peer) (b : Bool) → cond b (Some q) (find (is_peer p.number) ps) ≡ None → (find (is_peer p.number) ps ≡ None → put_peer ps p ≡ ps ++ p ∷ []) → cond b (p ∷ ps) (q ∷ put_peer ps p) ≡ q ∷ (ps ++ p ∷ [])
last_by_test p q ps true none rest = absurd (cc (none))
last_by_test p q ps false none rest = ap (λ t. q ∷ t) (rest none)

put_last : (p : Peer) (ps : List Peer) → find (is_peer p.number) ps ≡ None → put_peer ps p ≡ ps ++ p ∷ []
put_last p [] is = refl
put_last p (q ∷ ps) is = last_by_test p q ps (is_peer p.number q) is (put_last p ps)

pub put_new : (n : ℕ) (ps : List Peer) (change : Peer → Peer) → ((p : Peer) → (change p).number ≡ p.number) → position (is_peer n) ps ≡ None → ps ++ change (unknown_peer n) ∷ [] ≡ put_peer ps (change (peer_at ps n))
put_new n ps change keeps is =
    let none = not_found n ps is in
    let new : peer_at ps n ≡ unknown_peer n = ap (λ o. unwrap_or o (unknown_peer n)) none in
    let number : (change (unknown_peer n)).number ≡ n = keeps (unknown_peer n) in
    let last : put_peer ps (change (unknown_peer n)) ≡ ps ++ change (unknown_peer n) ∷ [] = put_last (change (unknown_peer n)) ps (ap (λ k. find (is_peer k) ps) number ∙ none) in
    sym (ap (λ p. put_peer ps (change p)) new ∙ last)
