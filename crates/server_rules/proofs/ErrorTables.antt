-- What one happening does to a table of errors.
use Rattle.std.proofs.Common.{◌≡◌, ◌≤◌, ℕ, Bool, true, false, cond, not, nat_eq, is_some, unwrap_or, true≢false, length, Option, Some, None, sym, ap, ◌∙◌}
use Rattle.std.specs.Cmp.{nat_eq_equiv}
use Rattle.indexmap.specs.IndexMap.{IsUnique}
use Rattle.server_rules.specs.Keyed.{after}
use Rattle.server_rules.specs.declared.retry.RouterLsp.{RouterLsp}
use Rattle.server_rules.specs.declared.peer_errors.PcErr.{PcErr}
use Rattle.server_rules.specs.declared.peer_errors.PcErrHappening.{PcErrHappening}
use Rattle.server_rules.specs.declared.peer_errors.PcErrHappening.TheVariants.{Sent, LspRemoved, Up, Expired}
use Rattle.server_rules.specs.declared.peer_errors.PeerErrors.{PeerErrors}
use Rattle.server_rules.specs.Retries.{is_same_lsp}
use Rattle.server_rules.specs.PcErrs.{Adds, changed, concerns, error_in, forgets}
use Rattle.server_rules.proofs.Kept.{passed}

pub adds : (old new : PeerErrors) (h : PcErrHappening) → (length old.errors.entries ≤ 16384 → length new.errors.entries ≤ 16384) → IsUnique is_same_lsp new.errors
    → (IsUnique is_same_lsp old.errors → (lsp : RouterLsp) → error_in new lsp ≡ after concerns changed None h lsp (error_in old lsp)) → Adds old new h
adds old new h fewer unique at = λ past knows. record {
  few = fewer knows.few;
  unique = unique;
  known = λ lsp. at knows.unique lsp ∙ ap (after concerns changed None h lsp) (knows.known lsp);
}

gone : (other peer : ℕ) → Some other ≡ Some peer → (q : RouterLsp) (o : Option PcErr)
    → passed (λ k. not (nat_eq q.peer peer)) (λ k. k) o ≡ cond (nat_eq other q.peer) None o
gone other peer is q o = all (nat_eq q.peer peer) (nat_eq other q.peer) o (nat_eq_equiv.symm q.peer peer ∙ ap (λ (x : Option ℕ). nat_eq (unwrap_or x peer) q.peer) (sym is))
  where
    all : (a b : Bool) (o : Option PcErr) → a ≡ b → passed (λ k. not a) (λ k. k) o ≡ cond b None o
    all true b None same = ap (λ (c : Bool). cond c None None) same
    all true b (Some e) same = ap (λ (c : Bool). cond c None (Some e)) same
    all false b None same = ap (λ (c : Bool). cond c None None) same
    all false b (Some e) same = ap (λ (c : Bool). cond c None (Some e)) same

-- the errors of a router's LSPs are removed
pub forgotten : (h : PcErrHappening) (peer : ℕ) → forgets h ≡ Some peer → (q : RouterLsp) (o : Option PcErr)
    → passed (λ k. not (nat_eq q.peer peer)) (λ k. k) o ≡ after concerns changed None h q o
forgotten (Sent of error) peer is q o = absurd (true≢false (sym (ap is_some is)))
forgotten (LspRemoved of) peer is q o = absurd (true≢false (sym (ap is_some is)))
forgotten (Up other) peer is q o = gone other peer is q o
forgotten (Expired other) peer is q o = gone other peer is q o
