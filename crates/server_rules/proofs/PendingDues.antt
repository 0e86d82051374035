-- What is due for the entries of a table of grants and deletions.
use Rattle.std.proofs.Common.{◌≡◌, ℕ, ◌&&◌, List, Option, None, Some, is_some, unwrap_or, slice_get, true≢false, refl, sym, ap, subst, ◌∙◌}
use Rattle.std.specs.Cmp.{IsEquivalence, nat_eq_equiv}
use Rattle.std.proofs.lemmas.Map.Entries.{place_from_lookup, hash_map_get_place}
use Rattle.indexmap.specs.IndexMap.{get, IsUnique}
use Rattle.server_rules.specs.declared.pending.Pending.{Pending}
use Rattle.server_rules.specs.declared.pending.PendingEnd.{PendingEnd}
use Rattle.server_rules.specs.declared.pending.PendingState.{PendingState}
use Rattle.server_rules.specs.declared.pending.PendingHappening.{PendingHappening}
use Rattle.server_rules.specs.declared.pending_table.PendingTable.{PendingTable}
use Rattle.server_rules.specs.declared.pending_table.PendingDue.{PendingDue}
use Rattle.server_rules.specs.Pendings.{AreDue, Knows, due_if, due_of, dues_in, is_same, known_from, known_of, owing, router_in}
use Rattle.server_rules.proofs.Listed.{listed_from, listed_to}
use Rattle.server_rules.proofs.PendingTables.{same-eq, same-refl}

pub same_laws : IsEquivalence is_same
same_laws = record {
  refl = same-refl;
  symm = λ a b j. nat_eq_equiv.symm a.peer b.peer j && nat_eq_equiv.symm a.srp b.srp j;
  congr = λ a b c is. ap (λ (x : Pending). is_same x c) (same-eq a b is);
}

-- an item of the list names its grant or deletion, and why it is due
parts : (p : Pending) (o : Option PendingEnd) (d : PendingDue) → due_if p o ≡ Some d → (p ≡ d.pending) × (o ≡ Some d.end)
parts p None d is = absurd (true≢false (sym (ap is_some is)))
parts p (Some why) d is = (ap (λ (x : Option PendingDue). (unwrap_or x d).pending) is, ap (λ (x : Option PendingDue). Some (unwrap_or x d).end) is)

module _ (table : PendingTable) (past : List PendingHappening) (now_ms answer_ms : ℕ) (knows : Knows table past) (unique : IsUnique is_same table.pending) where
  each : (k : ℕ) (d : PendingDue) → slice_get (dues_in table now_ms answer_ms) k ≡ Some d → owing now_ms answer_ms (known_from past d.pending) ≡ Some d.end
  each k d is =
      let from = listed_from (due_of table now_ms answer_ms) table.pending.entries k d is in
      let p : Pending = from.1.0 in
      let s : PendingState = from.1.1 in
      let got : get is_same table.pending p ≡ Some s = hash_map_get_place same_laws table.pending from.0 p s unique from.2 in
      let why = parts p (owing now_ms answer_ms (known_of (router_in table p.peer) (Some s))) d from.3 in
      subst (λ (q : Pending). owing now_ms answer_ms (known_from past q) ≡ Some d.end) why.0
      (ap (owing now_ms answer_ms) (sym (knows.known p)) ∙ ap (λ (o : Option PendingState). owing now_ms answer_ms (known_of (router_in table p.peer) o)) got ∙ why.1)

  found : (p : Pending) (why : PendingEnd) (o : Option PendingState) → get is_same table.pending p ≡ o → owing now_ms answer_ms (known_of (router_in table p.peer) o) ≡ Some why
      → (k : ℕ) × (slice_get (dues_in table now_ms answer_ms) k ≡ Some (record { pending = p; end = why }))
  found p why None is owes = absurd (true≢false (sym (ap is_some owes)))
  found p why (Some s) is owes =
      let place = place_from_lookup (is_same p) table.pending.entries s is in
      let same : p ≡ place.1 = same-eq p place.1 place.3 in
      listed_to (due_of table now_ms answer_ms) table.pending.entries place.0 (place.1, s) (record { pending = p; end = why }) place.2
      (subst (λ (q : Pending). due_of table now_ms answer_ms (q, s) ≡ Some (record { pending = p; end = why })) same (ap (due_if p) owes))

  pub are_due : AreDue past now_ms answer_ms (dues_in table now_ms answer_ms)
  are_due = record {
    each = each;
    all = λ p why is. found p why (get is_same table.pending p) refl (ap (owing now_ms answer_ms) (knows.known p) ∙ is);
  }
