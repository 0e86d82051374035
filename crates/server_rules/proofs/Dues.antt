-- What is due for a table's entries, in their order.
use Rattle.std.proofs.Common.{◌≡◌, ℕ, ◌<◌, zero, suc, List, [], ◌∷◌, true≢false, nat_eq, refl, sym, ap, ◌∙◌, arith}
use Rattle.std.specs.Prelude.{Option, Some, None, is_some, slice_get, unwrap_or}
use Rattle.std.specs.Map.{lookup}
use Rattle.std.proofs.lemmas.Map.Entries.{place_from_lookup}
use Rattle.server_rules.specs.declared.known.Known.{Known}
use Rattle.server_rules.specs.declared.known.Owing.{Owing}
use Rattle.server_rules.specs.Peers.{owing, nothing, first_due, due_or}

-- a peer without an entry never came, so what holds of no entry holds of no peer
pub of_no_peer : {X : Type 0} (f : Known → X) (not : X) → f nothing ≡ not → (es : List (ℕ × Known)) → ((k : ℕ) (e : ℕ × Known) → slice_get es k ≡ Some e → f e.1 ≡ not)
    → (peer : ℕ) (found : Option Known) → lookup (nat_eq peer) es ≡ found → f (unwrap_or found nothing) ≡ not
of_no_peer f not blank es none peer None is = blank
of_no_peer f not blank es none peer (Some known) is =
    let place = place_from_lookup (nat_eq peer) es known is in none place.0 (place.1, known) place.2

module _ (now_ms keep_ms : ℕ) where
  -- nothing is due for any entry
  pub none_first : (es : List (ℕ × Known)) → ((k : ℕ) (e : ℕ × Known) → slice_get es k ≡ Some e → owing now_ms keep_ms e.1 ≡ None) → first_due now_ms keep_ms es ≡ None
  none_first [] none = refl
  none_first (e ∷ es) none =
      ap (λ (o : Option Owing). due_or e.0 o (first_due now_ms keep_ms es)) (none 0 e refl) ∙ none_first es (λ k f is. none (suc k) f is)

  -- this is due for an entry, and nothing is due for those before it
  pub found_first : (es : List (ℕ × Known)) (at : ℕ) (e : ℕ × Known) (what : Owing) → ((k : ℕ) (f : ℕ × Known) → k < at → slice_get es k ≡ Some f → owing now_ms keep_ms f.1 ≡ None)
      → slice_get es at ≡ Some e → owing now_ms keep_ms e.1 ≡ Some what → first_due now_ms keep_ms es ≡ Some (record { peer = e.0; what = what })
  found_first [] at e what none is due = absurd (true≢false (sym (ap is_some is)))
  found_first (x ∷ es) zero e what none is due =
      let same : x ≡ e = ap (λ (u : Option (ℕ × Known)). unwrap_or u x) is in
      ap (λ (y : ℕ × Known). due_or y.0 (owing now_ms keep_ms y.1) (first_due now_ms keep_ms es)) same ∙ ap (λ (o : Option Owing). due_or e.0 o (first_due now_ms keep_ms es)) due
  found_first (x ∷ es) (suc at) e what none is due =
      ap (λ (o : Option Owing). due_or x.0 o (first_due now_ms keep_ms es)) (none 0 x (omega arith) refl)
      ∙ found_first es at e what (λ k f less here. none (suc k) f (omega arith) here) is due
