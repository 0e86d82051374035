-- What one happening does to a table of LSPs that may have to be asked for again.
use Rattle.std.proofs.Common.{◌≡◌, ℕ, ◌≤◌, ◌&&◌, Bool, true, false, cond, length, Option, None, Some, unwrap_or, nat_eq, not, refl, sym, ap, ◌∙◌, arith}
use Rattle.std.specs.Cmp.{IsEquivalence, nat_eq_equiv}
use Rattle.std.proofs.lemmas.Bool.{and_parts, eqb-true}
use Rattle.std.proofs.lemmas.Bool.Decides.{nat_tests}
use Rattle.indexmap.specs.IndexMap.{get, IsUnique}
use Rattle.server_rules.specs.Keyed.{after}
use Rattle.server_rules.specs.declared.retry.RouterLsp.{RouterLsp}
use Rattle.server_rules.specs.declared.retry.RetryState.{RetryState}
use Rattle.server_rules.specs.declared.retry.Concerned.{Concerned}
use Rattle.server_rules.specs.declared.retry.Concerned.TheVariants.{Lsp, Router, All}
use Rattle.server_rules.specs.declared.retry.RetryHappening.{RetryHappening}
use Rattle.server_rules.specs.declared.retry.RetryHappening.TheVariants.{Seen, Tried, NoAnswer, Reported, CameUp, Gone, Reloaded, Up, Expired}
use Rattle.server_rules.specs.declared.retry_table.RetryTable.{RetryTable}
use Rattle.server_rules.specs.Retries.{Adds, begun_anew, changed, concerns, is_nothing, is_of, is_same_lsp, nothing, retry_in, whom}
use Rattle.server_rules.proofs.Kept.{passed}

pub lsp-eq : (a b : RouterLsp) → is_same_lsp a b ≡ true → a ≡ b
lsp-eq a b h =
    let p = and_parts _ _ h in
    λ j. record { peer = eqb-true a.peer b.peer p.0 j; plsp = eqb-true a.plsp b.plsp p.1 j }

pub lsp_laws : IsEquivalence is_same_lsp
lsp_laws = record {
  refl = λ a j. nat_eq_equiv.refl a.peer j && nat_eq_equiv.refl a.plsp j;
  symm = λ a b j. nat_eq_equiv.symm a.peer b.peer j && nat_eq_equiv.symm a.plsp b.plsp j;
  congr = λ a b c is. ap (λ (x : RouterLsp). is_same_lsp x c) (lsp-eq a b is);
}

-- a happening of a router forgets all of its LSPs
forgets : (h : RetryHappening) (peer : ℕ) → whom h ≡ Router peer → (k : RetryState) → changed h k ≡ nothing
forgets (Seen of sight is_first now_ms) peer is k = cc
forgets (Tried of now_ms) peer is k = cc
forgets (NoAnswer of) peer is k = cc
forgets (Reported of) peer is k = cc
forgets (CameUp of now_ms) peer is k = cc
forgets (Gone of) peer is k = refl
forgets Reloaded peer is k = cc
forgets (Up other) peer is k = refl
forgets (Expired other) peer is k = refl

-- a happening of all lets all begin again
begins : (h : RetryHappening) → whom h ≡ All → (k : RetryState) → changed h k ≡ begun_anew k
begins (Seen of sight is_first now_ms) is k = cc
begins (Tried of now_ms) is k = cc
begins (NoAnswer of) is k = cc
begins (Reported of) is k = cc
begins (CameUp of now_ms) is k = cc
begins (Gone of) is k = cc
begins Reloaded is k = refl
begins (Up other) is k = cc
begins (Expired other) is k = cc

module _ (old new : RetryTable) (h : RetryHappening) (fewer : length old.lsps.entries ≤ 16384 → length new.lsps.entries ≤ 16384)
    (unique : IsUnique is_same_lsp new.lsps) where
  adds : ((lsp : RouterLsp) → retry_in new lsp ≡ after concerns changed nothing h lsp (retry_in old lsp)) → Adds old new h
  adds at = λ past knows. record {
    few = fewer knows.few;
    unique = unique;
    known = λ lsp. at lsp ∙ ap (after concerns changed nothing h lsp) (knows.known lsp);
  }

  -- it concerns one of them
  pub own : (of : RouterLsp) (w : Option RetryState) → whom h ≡ Lsp of
      → ((q : RouterLsp) → get is_same_lsp new.lsps q ≡ cond (is_same_lsp of q) w (get is_same_lsp old.lsps q))
      → unwrap_or w nothing ≡ changed h (retry_in old of) → Adds old new h
  own of w concern gets at = adds (λ q. by q (is_same_lsp of q) refl)
    where
      by : (q : RouterLsp) (b : Bool) → is_same_lsp of q ≡ b → retry_in new q ≡ after concerns changed nothing h q (retry_in old q)
      by q true is =
          ap (λ (o : Option RetryState). unwrap_or o nothing) (gets q ∙ ap (λ b. cond b w (get is_same_lsp old.lsps q)) is) ∙ at
          ∙ ap (λ (p : RouterLsp). changed h (retry_in old p)) (lsp-eq of q is)
          ∙ sym (ap (λ b. cond b (changed h (retry_in old q)) (retry_in old q)) (ap (λ (c : Concerned). is_of c q) concern ∙ is))
      by q false is =
          ap (λ (o : Option RetryState). unwrap_or o nothing) (gets q ∙ ap (λ b. cond b w (get is_same_lsp old.lsps q)) is)
          ∙ sym (ap (λ b. cond b (changed h (retry_in old q)) (retry_in old q)) (ap (λ (c : Concerned). is_of c q) concern ∙ is))

  -- it concerns several of them
  pub of_all : (keep : RouterLsp → RetryState → Bool) (put : RouterLsp → RetryState → RetryState)
      → (IsUnique is_same_lsp old.lsps → (q : RouterLsp) → get is_same_lsp new.lsps q ≡ passed (keep q) (put q) (get is_same_lsp old.lsps q))
      → ((q : RouterLsp) (o : Option RetryState) → unwrap_or (passed (keep q) (put q) o) nothing ≡ after concerns changed nothing h q (unwrap_or o nothing)) → Adds old new h
  of_all keep put gets at = λ past knows.
      adds (λ q. ap (λ (o : Option RetryState). unwrap_or o nothing) (gets knows.unique q) ∙ at q (get is_same_lsp old.lsps q)) past knows

-- the LSPs of a router are forgotten
pub forgotten : (h : RetryHappening) (peer : ℕ) → whom h ≡ Router peer → (q : RouterLsp) (o : Option RetryState)
    → unwrap_or (passed (λ k. not (nat_eq q.peer peer)) (λ k. k) o) nothing ≡ after concerns changed nothing h q (unwrap_or o nothing)
forgotten h peer is q o =
    by (nat_eq q.peer peer) o
    ∙ sym (ap (λ b. cond b (changed h (unwrap_or o nothing)) (unwrap_or o nothing)) (ap (λ (c : Concerned). is_of c q) is ∙ nat_eq_equiv.symm peer q.peer))
  where
    by : (b : Bool) (o : Option RetryState) → unwrap_or (passed (λ k. not b) (λ k. k) o) nothing ≡ cond b (changed h (unwrap_or o nothing)) (unwrap_or o nothing)
    by true None = sym (forgets h peer is nothing)
    by true (Some k) = sym (forgets h peer is k)
    by false None = refl
    by false (Some k) = refl

-- all LSPs begin again from the start
pub anew : (h : RetryHappening) → whom h ≡ All → (q : RouterLsp) (o : Option RetryState)
    → unwrap_or (passed (λ k. true) begun_anew o) nothing ≡ after concerns changed nothing h q (unwrap_or o nothing)
anew h is q o = by o ∙ sym (ap (λ b. cond b (changed h (unwrap_or o nothing)) (unwrap_or o nothing)) (ap (λ (c : Concerned). is_of c q) is))
  where
    by : (o : Option RetryState) → unwrap_or (passed (λ k. true) begun_anew o) nothing ≡ changed h (unwrap_or o nothing)
    by None = sym (begins h is nothing)
    by (Some k) = sym (begins h is k)

-- a state that says nothing is that of an unknown LSP
pub nothing_is : (k : RetryState) → is_nothing k ≡ true → nothing ≡ k
nothing_is k is = grind (arith, nat_tests)
