-- Which LSPs are due among the entries of a table.
use Rattle.std.proofs.Common.{◌≡◌, ℕ, zero, suc, Bool, true, false, cond, List, [], ◌∷◌, take, Option, None, Some, is_some, unwrap_or, slice_get, true≢false, refl, sym, ap, subst, ◌∙◌, arith}
use Rattle.std.proofs.lemmas.List.{length-take, take_all}
use Rattle.std.proofs.lemmas.Map.Entries.{place_from_lookup, hash_map_get_place}
use Rattle.indexmap.specs.IndexMap.{get}
use Rattle.server_rules.specs.declared.retry.RouterLsp.{RouterLsp}
use Rattle.server_rules.specs.declared.retry.RetryState.{RetryState}
use Rattle.server_rules.specs.declared.retry.RetryHappening.{RetryHappening}
use Rattle.server_rules.specs.declared.retry_table.RetryTable.{RetryTable}
use Rattle.server_rules.specs.Retries.{AreDue, Knows, due_of, dues_in, is_due, is_same_lsp, nothing, retry_from}
use Rattle.server_rules.proofs.Listed.{listed_from, listed_to}
use Rattle.server_rules.proofs.RetryTables.{lsp-eq, lsp_laws}

-- an item of the first part of a list is in the list
from_take : {X : Type 0} (n : ℕ) (xs : List X) (k : ℕ) (x : X) → slice_get (take n xs) k ≡ Some x → slice_get xs k ≡ Some x
from_take zero [] k x is = is
from_take zero (y ∷ ys) k x is = absurd (true≢false (sym (ap is_some is)))
from_take (suc n) [] k x is = is
from_take (suc n) (y ∷ ys) zero x is = is
from_take (suc n) (y ∷ ys) (suc k) x is = from_take n ys k x is

-- a listed LSP is that of an entry that is due
named : (lsp found : RouterLsp) (b : Bool) → cond b (Some lsp) None ≡ Some found → (lsp ≡ found) × (b ≡ true)
named lsp found true is = (ap (λ (o : Option RouterLsp). unwrap_or o found) is, refl)
named lsp found false is = absurd (true≢false (sym (ap is_some is)))

module _ (table : RetryTable) (past : List RetryHappening) (now_ms retry_ms room : ℕ) (knows : Knows table past) where
  each : (k : ℕ) (lsp : RouterLsp) → slice_get (dues_in table now_ms retry_ms) k ≡ Some lsp → is_due now_ms retry_ms (retry_from past lsp) ≡ true
  each k lsp is =
      let from = listed_from (due_of now_ms retry_ms) table.lsps.entries k lsp is in
      let p : RouterLsp = from.1.0 in
      let s : RetryState = from.1.1 in
      let got : get is_same_lsp table.lsps p ≡ Some s = hash_map_get_place lsp_laws table.lsps from.0 p s knows.unique from.2 in
      let why = named p lsp (is_due now_ms retry_ms s) from.3 in
      subst (λ (q : RouterLsp). is_due now_ms retry_ms (retry_from past q) ≡ true) why.0
      (ap (is_due now_ms retry_ms) (sym (knows.known p)) ∙ ap (λ (o : Option RetryState). is_due now_ms retry_ms (unwrap_or o nothing)) got ∙ why.1)

  found : (lsp : RouterLsp) (o : Option RetryState) → get is_same_lsp table.lsps lsp ≡ o → is_due now_ms retry_ms (unwrap_or o nothing) ≡ true
      → (k : ℕ) × (slice_get (dues_in table now_ms retry_ms) k ≡ Some lsp)
  found lsp None is owes = absurd (true≢false (sym owes))
  found lsp (Some s) is owes =
      let place = place_from_lookup (is_same_lsp lsp) table.lsps.entries s is in
      let same : lsp ≡ place.1 = lsp-eq lsp place.1 place.3 in
      listed_to (due_of now_ms retry_ms) table.lsps.entries place.0 (place.1, s) lsp place.2
      (subst (λ (q : RouterLsp). due_of now_ms retry_ms (q, s) ≡ Some lsp) same (ap (λ (b : Bool). cond b (Some lsp) None) owes))

  pub are_due : AreDue past now_ms retry_ms room (take room (dues_in table now_ms retry_ms))
  are_due =
      let dues = dues_in table now_ms retry_ms in
      record {
        few = omega (arith, length-take room dues);
        each = λ k lsp is. each k lsp (from_take room dues k lsp is);
        all = λ left lsp owes.
            let whole : take room dues ≡ dues = take_all room dues (omega (arith, length-take room dues)) in
            subst (λ (xs : List RouterLsp). (k : ℕ) × (slice_get xs k ≡ Some lsp)) (sym whole)
            (found lsp (get is_same_lsp table.lsps lsp) refl (ap (is_due now_ms retry_ms) (knows.known lsp) ∙ owes));
      }
