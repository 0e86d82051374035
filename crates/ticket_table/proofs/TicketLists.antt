-- All tickets may be tried again, whatever is done to their list.
use Rattle.std.proofs.Common.{◌≡◌, ◌&&◌, ℕ, ◌+◌, ◌<◌, Bool, List, [], ◌∷◌, ◌++◌, ◌∙◌, ap, subst, true, false, cond, refl, arith, nat_lt, nat_le}
use Rattle.std.specs.Prelude.{Option, Some, None, IfSome, find, not, if◌then◌else◌}
use Rattle.std.proofs.lemmas.Bool.{and_parts}
use Rattle.std.proofs.lemmas.Bool.Decides.{nat_tests}
use Rattle.ticket_table.specs.Tickets.{edit_first, drop_first, has_tries_left, all_have_tries, searched_for, waiting_again, is_waiting, is_ticket, take_first, put_back}
use Rattle.commit_core.specs.declared.ticket.Ticket.{Ticket}

both : (a b : Bool) → a ≡ true → b ≡ true → (a && b) ≡ true
both true b p q = q
both false b p q = p

-- if an edit keeps that a ticket may be tried again, tickets may be tried again after it edits the first that passes a
-- test
tries_by_test : (test : Ticket → Bool) (edit : Ticket → Ticket) (x : Ticket) (xs : List Ticket) (b : Bool) → test x ≡ b → (test x ≡ true → has_tries_left x ≡ true → has_tries_left (edit x) ≡ true) → (has_tries_left x && all_have_tries xs) ≡ true
    → (test x ≡ false → all_have_tries (edit_first test edit xs) ≡ true) → all_have_tries (if b then edit x ∷ xs else x ∷ edit_first test edit xs) ≡ true
tries_by_test test edit x xs true is keeps all rest =
    let parts = and_parts (has_tries_left x) (all_have_tries xs) all in
    both (has_tries_left (edit x)) (all_have_tries xs) (keeps is parts.0) parts.1
tries_by_test test edit x xs false is keeps all rest =
    both (has_tries_left x) (all_have_tries (edit_first test edit xs)) (and_parts (has_tries_left x) (all_have_tries xs) all).0 (rest is)

pub tries_after_edit : (test : Ticket → Bool) (edit : Ticket → Ticket) (xs : List Ticket) → ((x : Ticket) → find test xs ≡ Some x → has_tries_left x ≡ true → has_tries_left (edit x) ≡ true) → all_have_tries xs ≡ true → all_have_tries (edit_first test edit xs) ≡ true
tries_after_edit test edit [] keeps all = refl
tries_after_edit test edit (x ∷ xs) keeps all =
    tries_by_test test edit x xs (test x) refl (λ is. keeps x (ap (λ b. cond b (Some x) (find test xs)) is)) all
    (λ is. tries_after_edit test edit xs (λ y found. keeps y (ap (λ b. cond b (Some x) (find test xs)) is ∙ found)) (and_parts (has_tries_left x) (all_have_tries xs) all).1)

tries_less_by_test : (test : Ticket → Bool) (x : Ticket) (xs : List Ticket) (b : Bool) → (has_tries_left x && all_have_tries xs) ≡ true → all_have_tries (drop_first test xs) ≡ true → all_have_tries (if b then xs else x ∷ drop_first test xs) ≡ true
tries_less_by_test test x xs true all rest = (and_parts (has_tries_left x) (all_have_tries xs) all).1
tries_less_by_test test x xs false all rest = both (has_tries_left x) (all_have_tries (drop_first test xs)) (and_parts (has_tries_left x) (all_have_tries xs) all).0 rest

pub tries_after_drop : (test : Ticket → Bool) (xs : List Ticket) → all_have_tries xs ≡ true → all_have_tries (drop_first test xs) ≡ true
tries_after_drop test [] all = refl
tries_after_drop test (x ∷ xs) all = tries_less_by_test test x xs (test x) all (tries_after_drop test xs (and_parts (has_tries_left x) (all_have_tries xs) all).1)

pub tries_after_push : (t : Ticket) (xs : List Ticket) → has_tries_left t ≡ true → all_have_tries xs ≡ true → all_have_tries (xs ++ t ∷ []) ≡ true
tries_after_push t [] left all = both (has_tries_left t) true left refl
tries_after_push t (x ∷ xs) left all =
    let parts = and_parts (has_tries_left x) (all_have_tries xs) all in
    both (has_tries_left x) (all_have_tries (xs ++ t ∷ [])) parts.0 (tries_after_push t xs left parts.1)

-- the ticket that is found passes the test, and may be tried again
found_by_test : (test : Ticket → Bool) (x t : Ticket) (o : Option Ticket) (b : Bool) → test x ≡ b → has_tries_left x ≡ true → cond b (Some x) o ≡ Some t → (o ≡ Some t → (test t ≡ true) × (has_tries_left t ≡ true)) → (test t ≡ true) × (has_tries_left t ≡ true)
found_by_test test x t o true is left found rest = let same : x ≡ t = cc in subst (λ (y : Ticket). (test y ≡ true) × (has_tries_left y ≡ true)) same (is, left)
found_by_test test x t o false is left found rest = rest found

pub found_has_tries : (test : Ticket → Bool) (xs : List Ticket) (t : Ticket) → find test xs ≡ Some t → all_have_tries xs ≡ true → (test t ≡ true) × (has_tries_left t ≡ true)
found_has_tries test [] t found all = absurd (cc (found))
found_has_tries test (x ∷ xs) t found all =
    let parts = and_parts (has_tries_left x) (all_have_tries xs) all in
    found_by_test test x t (find test xs) (test x) refl parts.0 found (λ later. found_has_tries test xs t later parts.1)

left_by_taken : (b : Bool) (n : ℕ) → not b ≡ true → (if b then nat_le n 4 else nat_lt n 4) ≡ true → n < 4
left_by_taken true n is left = absurd (cc (is))
left_by_taken false n is left = grind (arith, nat_tests, left)

-- a ticket that waits was taken fewer than four times
pub waiting_has_tries : (t : Ticket) → is_waiting t ≡ true → has_tries_left t ≡ true → t.tries < 4
waiting_has_tries t is left = left_by_taken t.taken t.tries is left

pub first_waiting_tries : (xs : List Ticket) (t : Ticket) → find is_waiting xs ≡ Some t → all_have_tries xs ≡ true → t.tries < 4
first_waiting_tries xs t found all = let f = found_has_tries is_waiting xs t found all in waiting_has_tries t f.0 f.1

few_enough : (n : ℕ) → n < 4 → nat_le (n + 1) 4 ≡ true
few_enough n h = grind (arith, nat_tests)

fewer : (n : ℕ) → n < 4 → nat_lt n 4 ≡ true
fewer n h = grind (arith, nat_tests)

pub tries_after_take : (changes : ℕ) (xs : List Ticket) → all_have_tries xs ≡ true → all_have_tries (take_first xs changes) ≡ true
tries_after_take changes xs all = tries_after_edit is_waiting (searched_for changes) xs (λ x found left. few_enough x.tries (first_waiting_tries xs x found all)) all

found_few : (o : Option Ticket) (t : Ticket) → o ≡ Some t → IfSome o (λ u. u.tries < 4) → t.tries < 4
found_few None t is few = absurd (cc (is))
found_few (Some u) t is few = let same : u ≡ t = cc in subst (λ (y : Ticket). y.tries < 4) same few

pub tries_after_put_back : (id : ℕ) (xs : List Ticket) → IfSome (find (is_ticket id) xs) (λ t. t.tries < 4) → all_have_tries xs ≡ true → all_have_tries (put_back xs id) ≡ true
tries_after_put_back id xs few all = tries_after_edit (is_ticket id) waiting_again xs (λ x found left. fewer x.tries (found_few (find (is_ticket id) xs) x found few)) all
