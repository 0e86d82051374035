-- If the entries of one router are filtered out, exactly its LSPs lose their names.
use Rattle.std.proofs.Common.{◌≡◌, ℕ, Bool, true, false, cond, not, filter, Option, None, nat_eq, refl, sym, ap, ◌∙◌}
use Rattle.std.specs.Map.{lookup}
use Rattle.std.proofs.lemmas.Bool.{and_parts, eqb-true}
use Rattle.std.proofs.lemmas.Map.Entries.{lookup-filter-keys}
use Rattle.server_base.specs.LspNames.{is_of_router, name_in}
use Rattle.server_base.specs.declared.lsp_names.LspNames.{LspNames}
use Rattle.server_log.specs.declared.shown_name.ShownName.{ShownName}
use Rattle.server_rules.specs.Retries.{is_same_lsp}
use Rattle.server_rules.specs.declared.retry.RouterLsp.{RouterLsp}

same-eq : (a b : RouterLsp) → is_same_lsp a b ≡ true → a ≡ b
same-eq a b h =
    let p = and_parts _ _ h in
    λ j. record { peer = eqb-true a.peer b.peer p.0 j; plsp = eqb-true a.plsp b.plsp p.1 j }

given : (b : Bool) (o : Option ShownName) → cond (not b) o None ≡ cond b None o
given true o = refl
given false o = refl

pub forgets_names : (old new : LspNames) (peer : ℕ) → new.names.entries ≡ filter (λ e. not (nat_eq e.0.peer peer)) old.names.entries
    → (q : RouterLsp) → name_in new q ≡ cond (is_of_router peer q) None (name_in old q)
forgets_names old new peer entries q =
    ap (lookup (is_same_lsp q)) entries
    ∙ lookup-filter-keys (is_same_lsp q) (λ (r : RouterLsp). not (nat_eq r.peer peer)) (not (nat_eq q.peer peer)) (λ r is. ap (λ (s : RouterLsp). not (nat_eq s.peer peer)) (sym (same-eq q r is))) old.names.entries
    ∙ given (nat_eq q.peer peer) (name_in old q)
