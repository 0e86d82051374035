-- Adding, changing and removing names and tickets of one peer leaves those of all other peers.
use Rattle.std.proofs.Common.{◌≡◌, ◌==◌, ◌&&◌, ℕ, Bool, true, false, cond, List, [], ◌∷◌, ◌++◌, IsPermutation, refl, sym, subst, ◌∙◌, ap, arith}
use Rattle.std.specs.Prelude.{filter, not, Option, Some, None, IfSome, find, if◌then◌else◌}
use Rattle.std.proofs.lemmas.List.Elements.{filter-append}
use Rattle.std.proofs.lemmas.List.Sorted.{IsPermutation-refl, IsPermutation-trans}
use Rattle.std.proofs.lemmas.Bool.Decides.{nat_tests}
use Rattle.lsp_base.specs.Lsps.{without_first}
use Rattle.lsp_base.proofs.Swapped.{without_first-others}
use Rattle.lsp_base.specs.declared.path.Path.{Path}
use Rattle.commit_core.specs.declared.ticket.Ticket.{Ticket}
use Rattle.step_core.specs.Grants.{with_name}
use Rattle.step_core.specs.States.{is_grant_of_name, names_without}
use Rattle.ticket_table.specs.Tickets.{edit_first, drop_first, is_ticket, ticket_at}
use Rattle.step_core.specs.declared.names.AwaitedName.{AwaitedName}
use Rattle.step_core.proofs.Others.{first_of_both, filter-skip, filter-both, append-nil, AllOwn}

-- ---- names

abbrev pub other_names : ℕ → List AwaitedName → List AwaitedName
other_names n names = filter (λ a. not (a.peer == n)) names

own_too : (n p q : ℕ) → (p == q) ≡ true → (p == n) ≡ true → (q == n) ≡ true
own_too n p q same own = grind (arith, nat_tests)

-- a name that is dropped with a path of the peer is the peer's
name_own : (n : ℕ) (x : Path) (a : AwaitedName) → (x.peer == n) ≡ true → is_grant_of_name a x ≡ true → not (a.peer == n) ≡ false
name_own n x a own is = ap not (own_too n x.peer a.peer (first_of_both (x.peer == a.peer) _ (first_of_both (x.peer == a.peer && x.plsp == 0) _ is)) own)

pub names_without-others : (n : ℕ) (names : List AwaitedName) (gone : List Path) → AllOwn n gone → IsPermutation (other_names n names) (other_names n (names_without names gone))
names_without-others n names [] own = IsPermutation-refl (other_names n names)
names_without-others n names (x ∷ gone) own =
    IsPermutation-trans _ _ _ (without_first-others (λ a. not (a.peer == n)) (λ a. is_grant_of_name a x) (λ a is. name_own n x a own.0 is) names)
    (names_without-others n (without_first (λ a. is_grant_of_name a x) names) gone own.1)

pub same_others : (n : ℕ) (names now : List AwaitedName) → other_names n now ≡ other_names n names → IsPermutation (other_names n names) (other_names n now)
same_others n names now same = subst (IsPermutation (other_names n names)) (sym same) (IsPermutation-refl (other_names n names))

pub with_name-others : (n : ℕ) (names : List AwaitedName) (name : Option AwaitedName) → IfSome name (λ a. (a.peer == n) ≡ true) → other_names n (with_name names name) ≡ other_names n names
with_name-others n names None own = refl
with_name-others n names (Some a) own =
    filter-append (λ y. not (y.peer == n)) names (a ∷ []) ∙ ap (λ t. other_names n names ++ t) (filter-skip (λ y. not (y.peer == n)) a [] (ap not own)) ∙ append-nil (other_names n names)

-- ---- tickets

abbrev pub other_tickets : ℕ → List Ticket → List Ticket
other_tickets n tickets = filter (λ t. not (t.peer == n)) tickets

pub with_ticket-others : (n : ℕ) (tickets : List Ticket) (t : Ticket) → (t.peer == n) ≡ true → other_tickets n (tickets ++ t ∷ []) ≡ other_tickets n tickets
with_ticket-others n tickets t own =
    filter-append (λ y. not (y.peer == n)) tickets (t ∷ []) ∙ ap (λ ts. other_tickets n tickets ++ ts) (filter-skip (λ y. not (y.peer == n)) t [] (ap not own)) ∙ append-nil (other_tickets n tickets)

-- what is found passes the test
found_by_test : (test : Ticket → Bool) (x t : Ticket) (o : Option Ticket) (b : Bool) → test x ≡ b → cond b (Some x) o ≡ Some t → (o ≡ Some t → test t ≡ true) → test t ≡ true
found_by_test test x t o true is found rest = let same : x ≡ t = cc in subst (λ (y : Ticket). test y ≡ true) same is
found_by_test test x t o false is found rest = rest found

pub found_passes : (test : Ticket → Bool) (xs : List Ticket) (t : Ticket) → find test xs ≡ Some t → test t ≡ true
found_passes test [] t found = absurd (cc (found))
found_passes test (x ∷ xs) t found = found_by_test test x t (find test xs) (test x) refl found (found_passes test xs t)

same_id : (a b : ℕ) → (a == b) ≡ true → a ≡ b
same_id a b is = grind (arith, nat_tests)

-- a ticket that is found by a number is found by its own
pub found_by_own : (id : ℕ) (xs : List Ticket) (t : Ticket) → ticket_at xs id ≡ Some t → ticket_at xs t.id ≡ Some t
found_by_own id xs t found = ap (λ (k : ℕ). ticket_at xs k) (same_id t.id id (found_passes (is_ticket id) xs t found)) ∙ found

edit_by_test : (n : ℕ) (test : Ticket → Bool) (edit : Ticket → Ticket) (x : Ticket) (xs : List Ticket) (b : Bool) → test x ≡ b → ((t : Ticket) → (edit t).peer ≡ t.peer) → (test x ≡ true → (x.peer == n) ≡ true)
    → (test x ≡ false → other_tickets n (edit_first test edit xs) ≡ other_tickets n xs) → other_tickets n (if b then edit x ∷ xs else x ∷ edit_first test edit xs) ≡ other_tickets n (x ∷ xs)
edit_by_test n test edit x xs true is keeps own rest =
    filter-skip (λ y. not (y.peer == n)) (edit x) xs (ap not (ap (λ (p : ℕ). p == n) (keeps x) ∙ own is)) ∙ sym (filter-skip (λ y. not (y.peer == n)) x xs (ap not (own is)))
edit_by_test n test edit x xs false is keeps own rest = filter-both (λ y. not (y.peer == n)) x (edit_first test edit xs) xs (rest is)

-- the first that passes the test is the peer's, and stays the peer's
pub edit-others : (n : ℕ) (test : Ticket → Bool) (edit : Ticket → Ticket) (xs : List Ticket) → ((t : Ticket) → (edit t).peer ≡ t.peer) → ((t : Ticket) → find test xs ≡ Some t → (t.peer == n) ≡ true) → other_tickets n (edit_first test edit xs) ≡ other_tickets n xs
edit-others n test edit [] keeps own = refl
edit-others n test edit (x ∷ xs) keeps own =
    edit_by_test n test edit x xs (test x) refl keeps (λ is. own x (ap (λ b. cond b (Some x) (find test xs)) is))
    (λ is. edit-others n test edit xs keeps (λ t found. own t (ap (λ b. cond b (Some x) (find test xs)) is ∙ found)))

drop_by_test : (n : ℕ) (test : Ticket → Bool) (x : Ticket) (xs : List Ticket) (b : Bool) → test x ≡ b → (test x ≡ true → (x.peer == n) ≡ true)
    → (test x ≡ false → other_tickets n (drop_first test xs) ≡ other_tickets n xs) → other_tickets n (if b then xs else x ∷ drop_first test xs) ≡ other_tickets n (x ∷ xs)
drop_by_test n test x xs true is own rest = sym (filter-skip (λ y. not (y.peer == n)) x xs (ap not (own is)))
drop_by_test n test x xs false is own rest = filter-both (λ y. not (y.peer == n)) x (drop_first test xs) xs (rest is)

pub drop-others : (n : ℕ) (test : Ticket → Bool) (xs : List Ticket) → ((t : Ticket) → find test xs ≡ Some t → (t.peer == n) ≡ true) → other_tickets n (drop_first test xs) ≡ other_tickets n xs
drop-others n test [] own = refl
drop-others n test (x ∷ xs) own =
    drop_by_test n test x xs (test x) refl (λ is. own x (ap (λ b. cond b (Some x) (find test xs)) is))
    (λ is. drop-others n test xs (λ t found. own t (ap (λ b. cond b (Some x) (find test xs)) is ∙ found)))

some_is : (o : Option Ticket) (t u : Ticket) (n : ℕ) → o ≡ Some t → o ≡ Some u → (t.peer == n) ≡ true → (u.peer == n) ≡ true
some_is o t u n is also own = let same : t ≡ u = cc (is, also) in subst (λ (y : Ticket). (y.peer == n) ≡ true) same own

-- the one that is found is the peer's
pub only_own : (n : ℕ) (test : Ticket → Bool) (xs : List Ticket) (t : Ticket) → find test xs ≡ Some t → (t.peer == n) ≡ true → (u : Ticket) → find test xs ≡ Some u → (u.peer == n) ≡ true
only_own n test xs t found own u also = some_is (find test xs) t u n found also own
