-- Tickets as a map holds them, each under its number.
use Rattle.std.proofs.Common.{◌≡◌, ℕ, ◌+◌, ◌≤◌, ◌<◌, Bool, true, false, true≢false, cond, nat_eq, nat_le, List, [], ◌∷◌, ◌++◌, None, Some, IfSome, is_some, find, refl, sym, ap, subst, ◌∙◌, arith}
use Rattle.std.specs.Cmp.{nat_eq_equiv}
use Rattle.std.specs.List.{list_all}
use Rattle.std.specs.Map.{lookup, remove_entry, set_value, values_of}
use Rattle.std.specs.Option.{unwrap_or}
use Rattle.std.proofs.lemmas.Bool.{and_parts, eq-eqb, ne_eqb}
use Rattle.indexmap.specs.IndexMap.{insert_entry}
use Rattle.commit_core.specs.declared.ticket.Ticket.{Ticket}
use Rattle.ticket_table.specs.Tickets.{AreNumbered, AreRising, AreRisingFrom, edit_first, first_waiting, is_ticket, is_waiting, searched_for, take_first, ticket_at, without_ticket}
use Rattle.ticket_table.proofs.TicketOrders.{le_of}

-- a number equals a ticket's key exactly if it is the ticket's own number
same_test : (id : ℕ) (e : ℕ × Ticket) → e.0 ≡ e.1.id → nat_eq id e.0 ≡ is_ticket id e.1
same_test id e h = nat_eq_equiv.symm id e.0 ∙ ap (λ k. nat_eq k id) h

pub found : (id : ℕ) (es : List (ℕ × Ticket)) → AreNumbered es → lookup (nat_eq id) es ≡ ticket_at (values_of es) id
found id [] h = refl
found id (e ∷ es) h = λ j. cond (same_test id e h.0 j) (Some e.1) (found id es h.1 j)

-- ---- a ticket of a number above the last

pub pushed : (t : Ticket) (last : ℕ) (es : List (ℕ × Ticket)) → last < t.id → AreNumbered es → list_all (λ u. nat_le u.id last) (values_of es) ≡ true → insert_entry nat_eq es t.id t ≡ es ++ (t.id, t) ∷ []
pushed t last [] above h given = refl
pushed t last (e ∷ es) above h given =
    let parts = and_parts (nat_le e.1.id last) (list_all (λ u. nat_le u.id last) (values_of es)) given in
    let low = le_of e.1.id last parts.0 in
    let own = h.0 in
    let other : nat_eq t.id e.0 ≡ false = ne_eqb t.id e.0 (λ same. omega (arith, same, above, own, low)) in
    ap (λ c. cond c ((e.0, t) ∷ es) (e ∷ insert_entry nat_eq es t.id t)) other ∙ ap (λ l. e ∷ l) (pushed t last es above h.1 parts.1)

pub pushed_values : (t : Ticket) (es : List (ℕ × Ticket)) → values_of (es ++ (t.id, t) ∷ []) ≡ values_of es ++ t ∷ []
pushed_values t [] = refl
pushed_values t (e ∷ es) = ap (λ l. e.1 ∷ l) (pushed_values t es)

pub numbered_pushed : (t : Ticket) (es : List (ℕ × Ticket)) → AreNumbered es → AreNumbered (es ++ (t.id, t) ∷ [])
numbered_pushed t [] h = (refl, tt)
numbered_pushed t (e ∷ es) h = (h.0, numbered_pushed t es h.1)

-- ---- a ticket that is removed

pub numbered_removed : (test : ℕ → Bool) (es : List (ℕ × Ticket)) → AreNumbered es → AreNumbered (remove_entry test es)
numbered_removed test [] h = h
numbered_removed test (e ∷ es) h = by (test e.0) (numbered_removed test es h.1)
  where
    by : (b : Bool) → AreNumbered (remove_entry test es) → AreNumbered (cond b es (e ∷ remove_entry test es))
    by true rest = h.1
    by false rest = (h.0, rest)

pub removed : (id : ℕ) (es : List (ℕ × Ticket)) → AreNumbered es → values_of (remove_entry (nat_eq id) es) ≡ without_ticket (values_of es) id
removed id [] h = refl
removed id (e ∷ es) h = by (nat_eq id e.0) ∙ λ j. cond (same_test id e h.0 j) (values_of es) (e.1 ∷ removed id es h.1 j)
  where
    by : (b : Bool) → values_of (cond b es (e ∷ remove_entry (nat_eq id) es)) ≡ cond b (values_of es) (e.1 ∷ values_of (remove_entry (nat_eq id) es))
    by true = refl
    by false = refl

-- ---- a ticket that is written

pub written : (edit : Ticket → Ticket) (w : Ticket) (id : ℕ) (es : List (ℕ × Ticket)) → AreNumbered es → IfSome (lookup (nat_eq id) es) (λ t. w ≡ edit t)
    → values_of (set_value (nat_eq id) es w) ≡ edit_first (is_ticket id) edit (values_of es)
written edit w id [] h s = refl
written edit w id (e ∷ es) h s = by (nat_eq id e.0) (sym (same_test id e h.0)) s (written edit w id es h.1)
  where
    by : (b : Bool) → is_ticket id e.1 ≡ b → IfSome (cond b (Some e.1) (lookup (nat_eq id) es)) (λ t. w ≡ edit t)
        → (IfSome (lookup (nat_eq id) es) (λ t. w ≡ edit t) → values_of (set_value (nat_eq id) es w) ≡ edit_first (is_ticket id) edit (values_of es))
        → values_of (cond b ((e.0, w) ∷ es) (e ∷ set_value (nat_eq id) es w)) ≡ edit_first (is_ticket id) edit (e.1 ∷ values_of es)
    by true is s rest = ap (λ x. x ∷ values_of es) s ∙ sym (ap (λ c. cond c (edit e.1 ∷ values_of es) (e.1 ∷ edit_first (is_ticket id) edit (values_of es))) is)
    by false is s rest = ap (λ l. e.1 ∷ l) (rest s) ∙ sym (ap (λ c. cond c (edit e.1 ∷ values_of es) (e.1 ∷ edit_first (is_ticket id) edit (values_of es))) is)

pub numbered_written : (w : Ticket) (test : ℕ → Bool) (es : List (ℕ × Ticket)) → AreNumbered es → IfSome (lookup test es) (λ t. w.id ≡ t.id) → AreNumbered (set_value test es w)
numbered_written w test [] h s = h
numbered_written w test (e ∷ es) h s = by (test e.0) s (numbered_written w test es h.1)
  where
    by : (b : Bool) → IfSome (cond b (Some e.1) (lookup test es)) (λ t. w.id ≡ t.id) → (IfSome (lookup test es) (λ t. w.id ≡ t.id) → AreNumbered (set_value test es w))
        → AreNumbered (cond b ((e.0, w) ∷ es) (e ∷ set_value test es w))
    by true s rest = (h.0 ∙ sym s, h.1)
    by false s rest = (h.0, rest s)

-- if no ticket passes, nothing is written
pub unwritten : (test : Ticket → Bool) (edit : Ticket → Ticket) (ts : List Ticket) → find test ts ≡ None → edit_first test edit ts ≡ ts
unwritten test edit [] none = refl
unwritten test edit (t ∷ ts) none = by (test t) none (unwritten test edit ts)
  where
    by : (b : Bool) → cond b (Some t) (find test ts) ≡ None → (find test ts ≡ None → edit_first test edit ts ≡ ts) → cond b (edit t ∷ ts) (t ∷ edit_first test edit ts) ≡ t ∷ ts
    by true none rest = absurd (true≢false (ap is_some none))
    by false none rest = ap (λ l. t ∷ l) (rest none)

-- ---- the first that waits

found_from : (n : ℕ) (test : Ticket → Bool) (ts : List Ticket) (t : Ticket) → AreRisingFrom n ts → find test ts ≡ Some t → n ≤ t.id
found_from n test [] t h is = absurd (true≢false (sym (ap is_some is)))
found_from n test (x ∷ xs) t h is = by (test x) is (found_from (x.id + 1) test xs t h.1)
  where
    by : (b : Bool) → cond b (Some x) (find test xs) ≡ Some t → (find test xs ≡ Some t → x.id + 1 ≤ t.id) → n ≤ t.id
    by true is rest = let same : x.id ≡ t.id = ap (λ o. (unwrap_or o t).id) is in omega (arith, same, h.0)
    by false is rest = let later = rest is in omega (arith, later, h.0)

-- the first waiting ticket is found and edited by its number
waiting_found : (n : ℕ) (edit : Ticket → Ticket) (ts : List Ticket) (t : Ticket) → AreRisingFrom n ts → first_waiting ts ≡ Some t
    → (ticket_at ts t.id ≡ Some t) × (edit_first (is_ticket t.id) edit ts ≡ edit_first is_waiting edit ts)
waiting_found n edit [] t h is = absurd (true≢false (sym (ap is_some is)))
waiting_found n edit (x ∷ xs) t h is = by (is_waiting x) is (λ later. found_from (x.id + 1) is_waiting xs t h.1 later) (waiting_found (x.id + 1) edit xs t h.1)
  where
    by : (b : Bool) → cond b (Some x) (first_waiting xs) ≡ Some t → (first_waiting xs ≡ Some t → x.id + 1 ≤ t.id)
        → (first_waiting xs ≡ Some t → (ticket_at xs t.id ≡ Some t) × (edit_first (is_ticket t.id) edit xs ≡ edit_first is_waiting edit xs))
        → (ticket_at (x ∷ xs) t.id ≡ Some t) × (edit_first (is_ticket t.id) edit (x ∷ xs) ≡ cond b (edit x ∷ xs) (x ∷ edit_first is_waiting edit xs))
    by true is later rest =
        let same : x.id ≡ t.id = ap (λ o. (unwrap_or o t).id) is in
        let own : is_ticket t.id x ≡ true = eq-eqb x.id t.id same in
        (rw own is, rw own refl)
    by false is later rest =
        let above = later is in
        let other : is_ticket t.id x ≡ false = ne_eqb x.id t.id (λ same. omega (arith, same, above)) in
        (rw other (rest is).0, rw other (ap (λ l. x ∷ l) (rest is).1))

-- the ticket of this number is the first waiting one, and is replaced when it is taken
pub take_written : (changes : ℕ) (es : List (ℕ × Ticket)) (waiting ticket : Ticket) → AreNumbered es → AreRising (values_of es) → first_waiting (values_of es) ≡ Some waiting → Some ticket ≡ lookup (nat_eq waiting.id) es
    → values_of (set_value (nat_eq waiting.id) es (record ticket { taken = true; tries = waiting.tries + 1; seen = changes })) ≡ take_first (values_of es) changes
take_written changes es waiting ticket h rising first there =
    let f = waiting_found 1 (searched_for changes) (values_of es) waiting rising first in
    let same : ticket ≡ waiting = ap (λ o. unwrap_or o ticket) (there ∙ found waiting.id es h ∙ f.0) in
    let w : record ticket { taken = true; tries = waiting.tries + 1; seen = changes } ≡ searched_for changes ticket = ap (λ (t : Ticket). record ticket { taken = true; tries = t.tries + 1; seen = changes }) (sym same) in
    written (searched_for changes) _ waiting.id es h (subst (λ o. IfSome o (λ t. record ticket { taken = true; tries = waiting.tries + 1; seen = changes } ≡ searched_for changes t)) there w) ∙ f.1

pub there_waiting : (es : List (ℕ × Ticket)) (waiting : Ticket) → AreNumbered es → AreRising (values_of es) → first_waiting (values_of es) ≡ Some waiting → lookup (nat_eq waiting.id) es ≡ Some waiting
there_waiting es waiting h rising first = found waiting.id es h ∙ (waiting_found 1 (searched_for 0) (values_of es) waiting rising first).0
