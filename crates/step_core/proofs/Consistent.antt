-- Each event leaves the state consistent, and no SRP-ID is above the last that its peer was given.
use Rattle.std.proofs.Common.{◌≡◌, ◌≤◌, ◌==◌, ℕ, Bool, true, false, cond, List, map, refl, sym, ap, ◌∙◌, subst, arith}
use Rattle.std.specs.Prelude.{Some}
use Rattle.std.proofs.lemmas.Bool.{eqb-true}
use Rattle.lsp_base.specs.Lsps.{Lsps, AreDistinct, changed, is_path_of, is_record_of, made_stale, with_stale}
use Rattle.lsp_base.specs.Grants.{is_grant_of, is_unbound_grant}
use Rattle.lsp_base.specs.Pending.{is_grant_as}
use Rattle.lsp_base.specs.declared.path.Path.{Path}
use Rattle.lsp_base.specs.declared.effect.Effect.{Effect}
use Rattle.lsp_base.proofs.Distinct.{set_records_distinct}
use Rattle.step_core.specs.Consistent.{AreRising, asked_as, count, IsConsistent, NoneAbove}
use Rattle.step_core.specs.Names.{is_of_grant}
use Rattle.step_core.specs.States.{State, is_peer, names_without, peer_at, put_peer}
use Rattle.ticket_table.specs.Tickets.{AreInOrder}
use Rattle.step_core.specs.declared.peer.Peer.{Peer}
use Rattle.step_core.proofs.Counts.{count-exchanged, count-map, count-same}
use Rattle.step_core.proofs.Kept.{HasPaths, KeepsPaths}
use Rattle.step_core.proofs.NameCounts.{names_without-count}
use Rattle.step_core.proofs.Others.{peer_at-number}
use Rattle.step_core.proofs.PeerCounts.{put_peer-other, put_peer-own}
use Rattle.step_core.proofs.Plain.{IsPlain}
use Rattle.step_core.proofs.RecordCounts.{set-numbered}

-- ---- after an effect that asks for nothing

-- no grant and no awaited removal is added
pub less_asked : (base : Lsps) (n : ℕ) (e : Effect) → IsPlain base n e → (m k : ℕ) → asked_as (changed base n e) m k ≤ asked_as base m k
unfolding changed
less_asked base n e plain m k =
    let paths = count-exchanged (is_grant_as m k) base.paths e.change.dropped e.change.added plain.has in
    let grants = plain.grants m k in
    let removals = plain.removals m k in
    omega (arith, paths, grants, removals)

still_named : (s : State) (n : ℕ) (e : Effect) → IsPlain s.base n e → IsConsistent s → (m k : ℕ) → count (is_of_grant m k) (names_without s.names e.change.dropped) ≡ count (is_unbound_grant m (Some k)) (changed s.base n e).paths
unfolding changed
still_named s n e plain c m k =
    let paths = count-exchanged (is_unbound_grant m (Some k)) s.base.paths e.change.dropped e.change.added plain.has in
    let none = plain.unbound m k in
    let names = names_without-count m k s.names e.change.dropped in
    let same = c.names m k in
    omega (arith, paths, none, names, same)

still_numbered : (s : State) (n : ℕ) (e : Effect) → IsPlain s.base n e → IsConsistent s → count (λ r. r.plsp == 0) (changed s.base n e).records ≡ 0
unfolding changed
still_numbered s n e plain c =
    let more = set-numbered n s.base.records e.records in
    let none = plain.numbered in
    let before = c.numbered in
    omega (arith, more, none, before)

still_distinct : (s : State) (n : ℕ) (e : Effect) → IsConsistent s → AreDistinct (changed s.base n e).records
unfolding changed
still_distinct s n e c = set_records_distinct n s.base.records e.records c.distinct

-- ---- what an event does: the state stays consistent, and SRP-IDs stay below the last ones while these rise

pub record Keeps (s t : State) : Type 0 where
  pub consistent : IsConsistent t
  pub none : NoneAbove s → AreRising s → NoneAbove t

-- the last SRP-IDs don't fall
abbrev pub Rise : List Peer → List Peer → Type 0
Rise old new = (m : ℕ) → (peer_at old m).last_srp ≤ (peer_at new m).last_srp

pub none_by : (s t : State) → ((m k : ℕ) → asked_as t.base m k ≤ asked_as s.base m k) → Rise s.peers t.peers → NoneAbove s → NoneAbove t
none_by s t less rise above = record { none = λ m k lt. (let no = above.none m k (let r = rise m in omega (arith, lt, r)) in let l = less m k in omega (arith, no, l)) }

-- the last SRP-ID of the peer that is set doesn't fall
pub put_rise : (ps : List Peer) (n : ℕ) (p : Peer) → p.number ≡ n → (peer_at ps n).last_srp ≤ p.last_srp → Rise ps (put_peer ps p)
put_rise ps n p number no_less m = by (p.number == m) refl
  where
    by : (b : Bool) → (p.number == m) ≡ b → (peer_at ps m).last_srp ≤ (peer_at (put_peer ps p) m).last_srp
    by true is =
        let same : p.number ≡ m = eqb-true p.number m is in
        let own : peer_at (put_peer ps p) m ≡ p = subst (λ (k : ℕ). peer_at (put_peer ps p) k ≡ p) same (put_peer-own p ps) in
        let old = ap (λ (k : ℕ). (peer_at ps k).last_srp) (sym number ∙ same) in
        let new = ap (λ (q : Peer). q.last_srp) own in
        omega (arith, old, new, no_less)
    by false other = let e = ap (λ (q : Peer). q.last_srp) (put_peer-other p m other ps) in omega (arith, e)

pub number_of : (n : ℕ) (ps : List Peer) → (peer_at ps n).number ≡ n
number_of n ps = eqb-true (peer_at ps n).number n (peer_at-number n ps)

pub same_peers : (ps : List Peer) → Rise ps ps
same_peers ps m = omega arith

-- the LSPs and the names stay
pub keeps_lsps : (s t : State) → IsConsistent s → t.base ≡ s.base → t.names ≡ s.names → ((m : ℕ) → count (is_peer m) t.peers ≤ 1) → Rise s.peers t.peers → AreInOrder t.last_ticket t.tickets → Keeps s t
keeps_lsps s t c base names peers rise tickets = record {
  consistent = record {
    distinct = subst (λ (b : Lsps). AreDistinct b.records) (sym base) c.distinct;
    numbered = ap (λ (b : Lsps). count (λ r. r.plsp == 0) b.records) base ∙ c.numbered;
    asked = λ m k. subst (λ (b : Lsps). asked_as b m k ≤ 1) (sym base) (c.asked m k);
    names = λ m k. (ap (count (is_of_grant m k)) names ∙ c.names m k ∙ ap (λ (b : Lsps). count (is_unbound_grant m (Some k)) b.paths) (sym base));
    grants = λ m q bound. subst (λ (b : Lsps). count (is_grant_of m q) b.paths ≤ 1) (sym base) (c.grants m q bound);
    kept = λ m q bound. subst (λ (b : Lsps). count (is_record_of m q) b.records ≤ count (is_path_of m q) b.paths) (sym base) (c.kept m q bound);
    peers = peers;
    tickets = tickets;
  };
  none = λ above rising. none_by s t (λ m k. let e = ap (λ (b : Lsps). asked_as b m k) base in omega (arith, e)) rise above;
}

pub keeps_all : (s : State) → IsConsistent s → Keeps s s
keeps_all s c = record { consistent = c; none = λ above rising. above }

-- the facts about the LSPs that an effect needs
pub has_paths : (s : State) → IsConsistent s → HasPaths s.base
has_paths s c = record { distinct = c.distinct; asked = c.asked; grants = c.grants; kept = c.kept }

-- after an effect that asks for nothing
pub consistent_effect : (s t : State) (n : ℕ) (e : Effect) → IsConsistent s → IsPlain s.base n e → KeepsPaths s.base n e → t.base ≡ changed s.base n e → t.names ≡ names_without s.names e.change.dropped → ((m : ℕ) → count (is_peer m) t.peers ≤ 1) → AreInOrder t.last_ticket t.tickets → IsConsistent t
consistent_effect s t n e c plain keeps base names peers tickets = record {
  distinct = subst (λ (b : Lsps). AreDistinct b.records) (sym base) (still_distinct s n e c);
  numbered = ap (λ (b : Lsps). count (λ r. r.plsp == 0) b.records) base ∙ still_numbered s n e plain c;
  asked = λ m k. (
      let less = less_asked s.base n e plain m k in
      let few = c.asked m k in
      let same = ap (λ (b : Lsps). asked_as b m k) base in
      omega (arith, less, few, same));
  names = λ m k. (ap (count (is_of_grant m k)) names ∙ still_named s n e plain c m k ∙ ap (λ (b : Lsps). count (is_unbound_grant m (Some k)) b.paths) (sym base));
  grants = λ m q bound. subst (λ (b : Lsps). count (is_grant_of m q) b.paths ≤ 1) (sym base) (keeps.grants m q bound);
  kept = λ m q bound. subst (λ (b : Lsps). count (is_record_of m q) b.records ≤ count (is_path_of m q) b.paths) (sym base) (keeps.kept m q bound);
  peers = peers;
  tickets = tickets;
}

pub keeps_effect : (s t : State) (n : ℕ) (e : Effect) → IsConsistent s → IsPlain s.base n e → KeepsPaths s.base n e → t.base ≡ changed s.base n e → t.names ≡ names_without s.names e.change.dropped → ((m : ℕ) → count (is_peer m) t.peers ≤ 1) → (AreRising s → Rise s.peers t.peers) → AreInOrder t.last_ticket t.tickets → Keeps s t
keeps_effect s t n e c plain keeps base names peers rise tickets = record {
  consistent = consistent_effect s t n e c plain keeps base names peers tickets;
  none = λ above rising. none_by s t (λ m k. let less = less_asked s.base n e plain m k in let same = ap (λ (b : Lsps). asked_as b m k) base in omega (arith, less, same)) (rise rising) above;
}

-- ---- paths that get stale

stale_same : {X : Type 0} (f : Path → X) → ((x : Path) → f (record x { fresh = false }) ≡ f x) → (n : ℕ) (x : Path) → f (made_stale n x) ≡ f x
stale_same {X} f same n x = by (x.peer == n)
  where
    by : (b : Bool) → f (cond b (record x { fresh = false }) x) ≡ f x
    by true = same x
    by false = refl

stale_count : (p : Path → Bool) → ((x : Path) → p (record x { fresh = false }) ≡ p x) → (n : ℕ) (xs : List Path) → count p (map (made_stale n) xs) ≡ count p xs
stale_count p same n xs = count-map p (made_stale n) xs ∙ count-same (λ (x : Path). p (made_stale n x)) p (stale_same p same n) xs

pub stale_asked : (base : Lsps) (n m k : ℕ) → asked_as (with_stale base n) m k ≡ asked_as base m k
unfolding with_stale
stale_asked base n m k = let stale = stale_count (is_grant_as m k) (λ x. refl) n base.paths in omega (arith, stale)

pub consistent_stale : (s t : State) (n : ℕ) → IsConsistent s → t.base ≡ with_stale s.base n → t.names ≡ s.names → t.peers ≡ s.peers → AreInOrder t.last_ticket t.tickets → IsConsistent t
unfolding with_stale
consistent_stale s t n c base names peers tickets = record {
  distinct = subst (λ (b : Lsps). AreDistinct b.records) (sym base) c.distinct;
  numbered = ap (λ (b : Lsps). count (λ r. r.plsp == 0) b.records) base ∙ c.numbered;
  asked = λ m k. (
      let same = ap (λ (b : Lsps). asked_as b m k) base in
      let stale = stale_count (is_grant_as m k) (λ x. refl) n s.base.paths in
      let few = c.asked m k in
      omega (arith, same, stale, few));
  names = λ m k. (ap (count (is_of_grant m k)) names ∙ c.names m k ∙ sym (ap (λ (b : Lsps). count (is_unbound_grant m (Some k)) b.paths) base ∙ stale_count (is_unbound_grant m (Some k)) (λ x. refl) n s.base.paths));
  grants = λ m q bound. (
      let same = ap (λ (b : Lsps). count (is_grant_of m q) b.paths) base in
      let stale = stale_count (is_grant_of m q) (λ x. refl) n s.base.paths in
      let few = c.grants m q bound in
      omega (arith, same, stale, few));
  kept = λ m q bound. (
      let paths = ap (λ (b : Lsps). count (is_path_of m q) b.paths) base in
      let stale = stale_count (is_path_of m q) (λ x. refl) n s.base.paths in
      let records = ap (λ (b : Lsps). count (is_record_of m q) b.records) base in
      let before = c.kept m q bound in
      omega (arith, paths, stale, records, before));
  peers = λ m. subst (λ (ps : List Peer). count (is_peer m) ps ≤ 1) (sym peers) (c.peers m);
  tickets = tickets;
}
