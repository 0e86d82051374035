-- The paths of one router, or of one LSP, are removed from those that are down.
use Rattle.std.proofs.Common.{◌≡◌, ℕ, Bool, true, false, cond, not, filter, Option, None, nat_eq, refl, sym, ap, ◌∙◌}
use Rattle.std.specs.Map.{lookup}
use Rattle.std.proofs.lemmas.Bool.{and_parts, eqb-true}
use Rattle.std.proofs.lemmas.Map.Entries.{lookup-filter-keys}
use Rattle.indexmap.specs.IndexMap.{get}
use Rattle.server_base.specs.DownPaths.{is_of, is_of_lsp, is_same_path}
use Rattle.server_base.specs.declared.down_paths.ReportedPath.{ReportedPath}
use Rattle.server_base.specs.declared.down_paths.DownPaths.{DownPaths}

same-eq : (a b : ReportedPath) → is_same_path a b ≡ true → a ≡ b
same-eq a b h =
    let p = and_parts _ _ h in
    let q = and_parts _ _ p.1 in
    λ j. record { peer = eqb-true a.peer b.peer p.0 j; plsp = eqb-true a.plsp b.plsp q.0 j; lsp = eqb-true a.lsp b.lsp q.1 j }

given : (b : Bool) (o : Option Bool) → cond (not b) o None ≡ cond b None o
given true o = refl
given false o = refl

pub forgets : (old new : DownPaths) (peer : ℕ) → new.paths.entries ≡ filter (λ e. not (nat_eq e.0.peer peer)) old.paths.entries
    → (q : ReportedPath) → get is_same_path new.paths q ≡ cond (is_of peer q) None (get is_same_path old.paths q)
forgets old new peer entries q =
    ap (lookup (is_same_path q)) entries
    ∙ lookup-filter-keys (is_same_path q) (λ (r : ReportedPath). not (nat_eq r.peer peer)) (not (nat_eq q.peer peer)) (λ r is. ap (λ (s : ReportedPath). not (nat_eq s.peer peer)) (sym (same-eq q r is))) old.paths.entries
    ∙ given (nat_eq q.peer peer) (get is_same_path old.paths q)

pub forgets_lsp : (old new : DownPaths) (peer plsp : ℕ) → new.paths.entries ≡ filter (λ e. not (is_of_lsp peer plsp e.0)) old.paths.entries
    → (q : ReportedPath) → get is_same_path new.paths q ≡ cond (is_of_lsp peer plsp q) None (get is_same_path old.paths q)
forgets_lsp old new peer plsp entries q =
    ap (lookup (is_same_path q)) entries
    ∙ lookup-filter-keys (is_same_path q) (λ (r : ReportedPath). not (is_of_lsp peer plsp r)) (not (is_of_lsp peer plsp q)) (λ r is. ap (λ (s : ReportedPath). not (is_of_lsp peer plsp s)) (sym (same-eq q r is))) old.paths.entries
    ∙ given (is_of_lsp peer plsp q) (get is_same_path old.paths q)
