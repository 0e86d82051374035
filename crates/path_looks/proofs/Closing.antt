-- A link that goes away has no bandwidth left, and that stays so while paths are placed elsewhere; so no path over it
-- is admissible for an LSP with bandwidth.
use Rattle.std.proofs.Common.{◌≡◌, ◌≤◌, ◌+◌, ◌-◌, ◌==◌, ◌&&◌, ◌||◌, ℕ, zero, suc, Bool, true, false, not, List, [], ◌∷◌, length, map, Option, Some, None, refl, sym, subst, arith, inl, inr, if◌then◌else◌}
use Rattle.std.specs.Prelude.{ℤ, pos, find, filter, slice_index_or, IfSome, IfNone}
use Rattle.std.specs.List.{list_all, list_any, range_with_len}
use Rattle.std.proofs.lemmas.Bool.{cases_eq, lt-leb}
use Rattle.std.proofs.lemmas.Bool.Decides.{nat_tests}
use Rattle.lsp_base.specs.Shares.{priorities}
use Rattle.te_snapshot.specs.Admissible.{is_open, EachOpen}
use Rattle.te_snapshot.specs.Network.{Network, state_of}
use Rattle.te_snapshot.specs.Room.{has_room_at, left, own_share}
use Rattle.te_snapshot.specs.declared.own.OwnShare.{OwnShare}
use Rattle.path_finder.specs.Answers.{IsAnswer, IsRefused}
use Rattle.path_finder.specs.declared.found.Found.{Found}
use Rattle.path_looks.specs.Moves.{held_elsewhere, open_row, taken, taken_row, uses, without_link, IsClosed}
use Rattle.path_looks.specs.declared.moves.Mover.{Mover}

-- ---- the table

-- if P holds of the row that is made for a place, and of a missing row, it holds of what stands at the place
made : (P : List ℤ → Type 0) (f : ℕ → List ℤ) (a n i j : ℕ) → j ≡ a + i → P [] → P (f j) → P (slice_index_or (map f (range_with_len a n)) i [])
made P f a zero i j same none here = none
made P f a (suc n) zero j same none here = subst (λ (k : ℕ). P (f k)) (omega (arith, same)) here
made P f a (suc n) (suc i) j same none here = made P f (a + 1) n i j (omega (arith, same)) none here

nothing : (xs : List ℕ) (p : ℕ) → slice_index_or (map (λ q. pos 0) xs) p (pos 0) ≡ pos 0
nothing [] p = refl
nothing (x ∷ xs) zero = refl
nothing (x ∷ xs) (suc p) = nothing xs p

both_ways : (b : Bool) → b ≡ true → b ≡ false → ⊥
both_ways b holds fails = grind (arith, holds, fails)

same_number : (a : ℕ) → (a == a) ≡ true
same_number a = grind (arith, nat_tests)

other_number : (a b : ℕ) → (a ≡ b → ⊥) → (a == b) ≡ false
other_number a b other = grind (arith, nat_tests, other)

closed_row : (closed : ℕ) (table : List (List ℤ)) (p : ℕ) → slice_index_or (open_row closed table closed) p (pos 0) ≡ pos 0
closed_row closed table p = rw (same_number closed) (nothing (priorities 0 7) p)

first_closed : (closed : ℕ) (table : List (List ℤ)) → IsClosed closed (without_link closed table)
unfolding without_link
first_closed closed table = record {
  none = λ p. made (λ row. slice_index_or row p (pos 0) ≡ pos 0) (open_row closed table) 0 (length table) closed closed (omega arith) refl (closed_row closed table p);
}

-- nothing is left on the link at first
pub starts_closed : (closed : ℕ) (table rows : List (List ℤ)) → rows ≡ without_link closed table → IsClosed closed rows
starts_closed closed table rows same = subst (λ (xs : List (List ℤ)). IsClosed closed xs) (sym same) (first_closed closed table)

kept_row : (m : Mover) (links : List ℕ) (table : List (List ℤ)) (closed p : ℕ) → list_any (λ l. l == closed) links ≡ false → left table closed p ≡ pos 0 → slice_index_or (taken_row m links table closed) p (pos 0) ≡ pos 0
kept_row m links table closed p avoids none = rw avoids none

still_closed : (closed : ℕ) (table : List (List ℤ)) (m : Mover) (f : Found) → uses closed f ≡ false → IsClosed closed table → IsClosed closed (taken m f.links table)
unfolding taken
still_closed closed table m f avoids empty = record {
  none = λ p. made (λ row. slice_index_or row p (pos 0) ≡ pos 0) (taken_row m f.links table) 0 (length table) closed closed (omega arith) refl (kept_row m f.links table closed p avoids (empty.none p));
}

-- placing a path over other links leaves the link closed
pub stays_closed : (closed : ℕ) (table rows : List (List ℤ)) (m : Mover) (f : Found) → rows ≡ taken m f.links table → uses closed f ≡ false → IsClosed closed table → IsClosed closed rows
stays_closed closed table rows m f same avoids empty = subst (λ (xs : List (List ℤ)). IsClosed closed xs) (sym same) (still_closed closed table m f avoids empty)

-- ---- paths

passing : {X : Type 0} (f : X → Bool) (x : X) (rest : List X) (b : Bool) → f x ≡ b → find f rest ≡ None → find f (if not b then x ∷ rest else rest) ≡ None
passing f x rest true is none = none
passing f x rest false is none = rw is none

none_stays : {X : Type 0} (f : X → Bool) (xs : List X) → find f (filter (λ x. not (f x)) xs) ≡ None
none_stays f [] = refl
none_stays f (x ∷ xs) = passing f x (filter (λ y. not (f y)) xs) (f x) refl (none_stays f xs)

nothing_held : (closed : ℕ) (own : List OwnShare) (p : ℕ) → own_share (held_elsewhere closed own) closed p ≡ 0
nothing_held closed own p = rw (none_stays (λ (held : OwnShare). held.link == closed) own) refl

and_no : (a b : Bool) → b ≡ false → (a && b) ≡ false
and_no true b fails = fails
and_no false b fails = refl

or_neither : (a b : Bool) → a ≡ false → b ≡ false → (a || b) ≡ false
or_neither a b first second = rw (first, second) refl

first_fails : (f : ℕ → Bool) (a n : ℕ) → 1 ≤ n → f a ≡ false → list_all f (range_with_len a n) ≡ false
first_fails f a zero some fails = absurd (omega (arith, some))
first_fails f a (suc n) some fails = rw fails refl

no_room_at : (closed : ℕ) (table : List (List ℤ)) (own : List OwnShare) (bandwidth p : ℕ) → IsClosed closed table → 1 ≤ bandwidth → has_room_at table (held_elsewhere closed own) bandwidth closed p ≡ false
no_room_at closed table own bandwidth p empty asks =
    let held : own_share (held_elsewhere closed own) closed p ≡ 0 = nothing_held closed own p in
    let nothing_left : left table closed p ≡ pos 0 = empty.none p in
    rw (held, nothing_left) (or_neither _ _ (lt-leb bandwidth 0 (omega (arith, asks))) (lt-leb (bandwidth - 0) 0 (omega (arith, asks))))

module _ (n : Network) (closed : ℕ) (table : List (List ℤ)) (m : Mover) where
  not_open : IsClosed closed table → ((m.wanted).priorities).hold ≤ ((m.wanted).priorities).setup → 1 ≤ (m.wanted).bandwidth → (colour : ℕ) → is_open table m.wanted (held_elsewhere closed m.own) closed colour ≡ false
  not_open empty order asks colour =
      let hold = ((m.wanted).priorities).hold in
      let setup = ((m.wanted).priorities).setup in
      and_no _ _ (first_fails (has_room_at table (held_elsewhere closed m.own) (m.wanted).bandwidth closed) hold (setup + 1 - hold) (omega (arith, order)) (no_room_at closed table m.own (m.wanted).bandwidth hold empty asks))

  not_over : ((colour : ℕ) → is_open table m.wanted (held_elsewhere closed m.own) closed colour ≡ false) → (path : List ℕ) → EachOpen n.links table m.wanted (held_elsewhere closed m.own) path → list_any (λ l. l == closed) path ≡ false
  not_over shut [] each = refl
  not_over shut (l ∷ ls) each =
      elim (cases_eq l closed) [
        | inl same ↦ absurd (both_ways _ (each.2) (subst (λ (k : ℕ). is_open table m.wanted (held_elsewhere closed m.own) k (each.0).colour ≡ false) (sym same) (shut (each.0).colour)))
        | inr other ↦ rw (other_number l closed other) (not_over shut ls each.3)
      ]

  -- for an LSP with bandwidth the search finds no path over the link
  pub refused_outright : (found : Option Found) → IsClosed closed table → ((m.wanted).priorities).hold ≤ ((m.wanted).priorities).setup
      → IfSome found (IsAnswer (state_of n table) m.wanted (held_elsewhere closed m.own))
      → IfNone found (IsRefused (state_of n table) m.wanted (held_elsewhere closed m.own))
      → IfSome found (λ f. uses closed f ≡ true)
      → 1 ≤ (m.wanted).bandwidth → IsRefused (state_of n table) m.wanted (held_elsewhere closed m.own)
  refused_outright None empty order answer refused over asks = refused
  refused_outright (Some f) empty order answer refused over asks =
      absurd (both_ways _ over (not_over (not_open empty order asks) f.links (((answer.least).admissible).each)))
