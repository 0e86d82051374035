-- Tickets stay in order, whatever is done to their list.
use Rattle.std.proofs.Common.{◌≡◌, ◌≤◌, ◌<◌, ◌&&◌, ◌∙◌, ℕ, ◌+◌, Bool, true, false, true≢false, cond, nat_le, List, [], ◌∷◌, ◌++◌, Some, All, refl, sym, ap, subst, arith}
use Rattle.std.specs.Prelude.{IfSome}
use Rattle.std.specs.List.{AllByRecursion, list_all}
use Rattle.std.specs.Option.{unwrap_or}
use Rattle.std.proofs.lemmas.Bool.{and_from, and_parts}
use Rattle.std.proofs.lemmas.Bool.Decides.{nat_tests}
use Rattle.std.proofs.lemmas.List.Elements.{All-from_recursion}
use Rattle.ticket_table.specs.Tickets.{AreInOrder, AreRising, AreRisingFrom, drop_first, edit_first, first_waiting, has_tries_left, is_ticket, is_waiting, put_back, searched_for, take_first, ticket_at, waiting_again, without_ticket}
use Rattle.ticket_table.proofs.TicketLists.{tries_after_drop, tries_after_push, tries_after_put_back, tries_after_take}
use Rattle.commit_core.specs.declared.ticket.Ticket.{Ticket}

-- the number is not above the last that was given
abbrev is_given : ℕ → Ticket → Bool
is_given last t = nat_le t.id last

pub le_of : (a b : ℕ) → nat_le a b ≡ true → a ≤ b
le_of a b is = grind (arith, nat_tests)

of_le : (a b : ℕ) → a ≤ b → nat_le a b ≡ true
of_le a b le = grind (arith, nat_tests)

-- ---- one more ticket, with a number above the last

rising_pushed : (t : Ticket) (least last : ℕ) (ts : List Ticket) → least ≤ t.id → last < t.id → AreRisingFrom least ts → list_all (is_given last) ts ≡ true → AreRisingFrom least (ts ++ t ∷ [])
rising_pushed t least last [] low above rising given = (low, tt)
rising_pushed t least last (x ∷ xs) low above rising given =
    let parts = and_parts (is_given last x) (list_all (is_given last) xs) given in
    let low = le_of x.id last parts.0 in
    (rising.0, rising_pushed t (x.id + 1) last xs (omega (arith, low, above)) above rising.1 parts.1)

given_pushed : (t : Ticket) (last : ℕ) (ts : List Ticket) → last ≤ t.id → list_all (is_given last) ts ≡ true → list_all (is_given t.id) (ts ++ t ∷ []) ≡ true
given_pushed t last [] more given = and_from (is_given t.id t) true (of_le t.id t.id (omega arith)) refl
given_pushed t last (x ∷ xs) more given =
    let parts = and_parts (is_given last x) (list_all (is_given last) xs) given in
    let low = le_of x.id last parts.0 in
    and_from (is_given t.id x) (list_all (is_given t.id) (xs ++ t ∷ [])) (of_le x.id t.id (omega (arith, low, more))) (given_pushed t last xs more parts.1)

pub order_pushed : (t : Ticket) (last : ℕ) (ts : List Ticket) → last < t.id → has_tries_left t ≡ true → AreInOrder last ts → AreInOrder t.id (ts ++ t ∷ [])
order_pushed t last ts above left o = record {
  rising = rising_pushed t 1 last ts (omega (arith, above)) above o.rising o.given;
  given = given_pushed t last ts (omega (arith, above)) o.given;
  tries = tries_after_push t ts left o.tries;
}

-- ---- numbers that are skipped

given_skipped : (last later : ℕ) (ts : List Ticket) → last ≤ later → list_all (is_given last) ts ≡ true → list_all (is_given later) ts ≡ true
given_skipped last later [] more given = refl
given_skipped last later (x ∷ xs) more given =
    let parts = and_parts (is_given last x) (list_all (is_given last) xs) given in
    let low = le_of x.id last parts.0 in
    and_from (is_given later x) (list_all (is_given later) xs) (of_le x.id later (omega (arith, low, more))) (given_skipped last later xs more parts.1)

pub order_skipped : (last later : ℕ) (ts : List Ticket) → last ≤ later → AreInOrder last ts → AreInOrder later ts
order_skipped last later ts more o = record {
  rising = o.rising;
  given = given_skipped last later ts more o.given;
  tries = o.tries;
}

-- ---- a ticket that ends

rising_lower : (m n : ℕ) (ts : List Ticket) → m ≤ n → AreRisingFrom n ts → AreRisingFrom m ts
rising_lower m n [] less rising = tt
rising_lower m n (t ∷ ts) less rising = let low = rising.0 in (omega (arith, less, low), rising.1)

rising_dropped : (test : Ticket → Bool) (least : ℕ) (ts : List Ticket) → AreRisingFrom least ts → AreRisingFrom least (drop_first test ts)
rising_dropped test least [] rising = tt
rising_dropped test least (t ∷ ts) rising = by (test t) (rising_dropped test (t.id + 1) ts rising.1)
  where
    by : (b : Bool) → AreRisingFrom (t.id + 1) (drop_first test ts) → AreRisingFrom least (cond b ts (t ∷ drop_first test ts))
    by true rest = let low = rising.0 in rising_lower least (t.id + 1) ts (omega (arith, low)) rising.1
    by false rest = (rising.0, rest)

given_dropped : (test : Ticket → Bool) (last : ℕ) (ts : List Ticket) → list_all (is_given last) ts ≡ true → list_all (is_given last) (drop_first test ts) ≡ true
given_dropped test last [] given = refl
given_dropped test last (t ∷ ts) given = let parts = and_parts (is_given last t) (list_all (is_given last) ts) given in by (test t) parts (given_dropped test last ts parts.1)
  where
    by : (b : Bool) → (is_given last t ≡ true) × (list_all (is_given last) ts ≡ true) → list_all (is_given last) (drop_first test ts) ≡ true → list_all (is_given last) (cond b ts (t ∷ drop_first test ts)) ≡ true
    by true parts rest = parts.1
    by false parts rest = and_from (is_given last t) (list_all (is_given last) (drop_first test ts)) parts.0 rest

pub order_without : (id last : ℕ) (ts : List Ticket) → AreInOrder last ts → AreInOrder last (without_ticket ts id)
order_without id last ts o = record {
  rising = rising_dropped (is_ticket id) 1 ts o.rising;
  given = given_dropped (is_ticket id) last ts o.given;
  tries = tries_after_drop (is_ticket id) ts o.tries;
}

-- ---- a ticket that is taken, and one that waits again: each keeps its number

rising_edited : (test : Ticket → Bool) (edit : Ticket → Ticket) → ((t : Ticket) → (edit t).id ≡ t.id) → (least : ℕ) (ts : List Ticket) → AreRisingFrom least ts → AreRisingFrom least (edit_first test edit ts)
rising_edited test edit same least [] rising = tt
rising_edited test edit same least (t ∷ ts) rising = by (test t) (rising_edited test edit same (t.id + 1) ts rising.1)
  where
    by : (b : Bool) → AreRisingFrom (t.id + 1) (edit_first test edit ts) → AreRisingFrom least (cond b (edit t ∷ ts) (t ∷ edit_first test edit ts))
    by true rest = subst (λ (k : ℕ). (least ≤ k) × AreRisingFrom (k + 1) ts) (sym (same t)) rising
    by false rest = (rising.0, rest)

given_edited : (test : Ticket → Bool) (edit : Ticket → Ticket) → ((t : Ticket) → (edit t).id ≡ t.id) → (last : ℕ) (ts : List Ticket) → list_all (is_given last) (edit_first test edit ts) ≡ list_all (is_given last) ts
given_edited test edit same last [] = refl
given_edited test edit same last (t ∷ ts) = by (test t) (given_edited test edit same last ts)
  where
    by : (b : Bool) → list_all (is_given last) (edit_first test edit ts) ≡ list_all (is_given last) ts → list_all (is_given last) (cond b (edit t ∷ ts) (t ∷ edit_first test edit ts)) ≡ list_all (is_given last) (t ∷ ts)
    by true rest = ap (λ (k : ℕ). nat_le k last && list_all (is_given last) ts) (same t)
    by false rest = ap (λ (b : Bool). is_given last t && b) rest

pub order_taken : (changes last : ℕ) (ts : List Ticket) → AreInOrder last ts → AreInOrder last (take_first ts changes)
order_taken changes last ts o = record {
  rising = rising_edited is_waiting (searched_for changes) (λ t. refl) 1 ts o.rising;
  given = given_edited is_waiting (searched_for changes) (λ t. refl) last ts ∙ o.given;
  tries = tries_after_take changes ts o.tries;
}

pub order_put_back : (id last : ℕ) (ts : List Ticket) → IfSome (ticket_at ts id) (λ t. t.tries < 4) → AreInOrder last ts → AreInOrder last (put_back ts id)
order_put_back id last ts few o = record {
  rising = rising_edited (is_ticket id) waiting_again (λ t. refl) 1 ts o.rising;
  given = given_edited (is_ticket id) waiting_again (λ t. refl) last ts ∙ o.given;
  tries = tries_after_put_back id ts few o.tries;
}

-- ---- the first that waits

all_from : (n : ℕ) (P : Ticket → Type 0) (ts : List Ticket) → AreRisingFrom n ts → ((u : Ticket) → n ≤ u.id → P u) → AllByRecursion P ts
all_from n P [] h p = tt
all_from n P (t ∷ ts) h p = (p t h.0, all_from (t.id + 1) P ts h.1 (λ u l. p u (omega (arith, l, h.0))))

least_of : (n : ℕ) (ts : List Ticket) (t : Ticket) → AreRisingFrom n ts → first_waiting ts ≡ Some t → AllByRecursion (λ u. is_waiting u ≡ true → t.id ≤ u.id) ts
least_of n [] t h is = tt
least_of n (x ∷ xs) t h is = by (is_waiting x) refl is (least_of (x.id + 1) xs t h.1)
  where
    by : (b : Bool) → is_waiting x ≡ b → cond b (Some x) (first_waiting xs) ≡ Some t → (first_waiting xs ≡ Some t → AllByRecursion (λ u. is_waiting u ≡ true → t.id ≤ u.id) xs)
        → AllByRecursion (λ u. is_waiting u ≡ true → t.id ≤ u.id) (x ∷ xs)
    by true e is rest =
        let same : x.id ≡ t.id = ap (λ o. (unwrap_or o t).id) is in
        (λ _. omega (arith, same), all_from (x.id + 1) (λ u. is_waiting u ≡ true → t.id ≤ u.id) xs h.1 (λ u l _. omega (arith, same, l)))
    by false e is rest = (λ w. absurd (true≢false (sym w ∙ e)), rest is)

-- the first waiting ticket has the least number of all that wait
pub least : (ts : List Ticket) (t : Ticket) → AreRising ts → first_waiting ts ≡ Some t → All (λ u. is_waiting u ≡ true → t.id ≤ u.id) ts
least ts t h is = All-from_recursion (λ u. is_waiting u ≡ true → t.id ≤ u.id) ts (least_of 1 ts t h is)
