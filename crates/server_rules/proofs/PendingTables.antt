-- What one happening does to a table of grants and deletions.
use Rattle.std.proofs.Common.{◌≡◌, ℕ, ◌≤◌, ◌+◌, ◌&&◌, ◌||◌, filter, is_some, length, true≢false, Bool, true, false, cond, not, Option, None, Some, unwrap_or, nat_eq, IfSome, refl, sym, ap, subst, ◌∙◌, arith}
use Rattle.std.specs.Cmp.{nat_eq_equiv}
use Rattle.std.specs.Map.{lookup}
use Rattle.std.proofs.lemmas.Bool.{and_parts, eqb-true}
use Rattle.std.proofs.lemmas.Bool.Decides.{nat_tests}
use Rattle.std.proofs.lemmas.Map.Entries.{lookup-filter-keys}
use Rattle.indexmap.specs.IndexMap.{get}
use Rattle.server_rules.specs.declared.pending.Pending.{Pending}
use Rattle.server_rules.specs.declared.pending.RouterKnown.{RouterKnown}
use Rattle.server_rules.specs.declared.pending.PendingState.{PendingState}
use Rattle.server_rules.specs.declared.pending.PendingHappening.{PendingHappening}
use Rattle.server_rules.specs.declared.pending.PendingHappening.TheVariants.{Made, Up, Down, SyncEnded, Expired}
use Rattle.server_rules.specs.declared.pending_table.PendingTable.{PendingTable}
use Rattle.server_rules.specs.Pendings.{Adds, IsSame, AreCounted, AreFew, after, after_own, concerns, is_same, known_in, nobody, known_of, router_in}

-- pending items that pass the test are equal
pub same-eq : (a b : Pending) → is_same a b ≡ true → a ≡ b
same-eq a b h =
    let p = and_parts _ _ h in
    λ j. record { peer = eqb-true a.peer b.peer p.0 j; srp = eqb-true a.srp b.srp p.1 j }

pub same-refl : (a : Pending) → is_same a a ≡ true
same-refl a = λ j. nat_eq_equiv.refl a.peer j && nat_eq_equiv.refl a.srp j

abbrev Fits : PendingTable → ℕ → Option PendingState → Type 0
Fits table peer s = IfSome s (λ t. t.session ≤ (router_in table peer).sessions)

module _ (old new : PendingTable) (few : AreFew old → AreFew new) where
  -- a table that has the same for each
  pub same : ((peer : ℕ) → router_in new peer ≡ router_in old peer) → ((q : Pending) → get is_same new.pending q ≡ get is_same old.pending q) → IsSame old new
  same routers gets = λ past knows. record {
    few = few knows.few;
    counted = λ p. subst (λ (r : RouterKnown). IfSome (get is_same new.pending p) (λ s. s.session ≤ r.sessions)) (sym (routers p.peer))
        (subst (λ (s : Option PendingState). Fits old p.peer s) (sym (gets p)) (knows.counted p));
    known = λ p. (λ j. known_of (routers p.peer j) (gets p j)) ∙ knows.known p;
  }

  module _ (h : PendingHappening) where
    -- it concerns one of them
    module _ (of : Pending) (w : Option PendingState) (routers : (peer : ℕ) → router_in new peer ≡ router_in old peer) (concern : (p : Pending) → concerns h p ≡ is_same of p)
        (gets : (q : Pending) → get is_same new.pending q ≡ cond (is_same of q) w (get is_same old.pending q))
        (at : known_of (router_in old of.peer) w ≡ after_own h (known_of (router_in old of.peer) (get is_same old.pending of)))
        (fits : AreCounted old → Fits old of.peer w) where
      gets_own : (p : Pending) → is_same of p ≡ true → get is_same new.pending p ≡ w
      gets_own p is = gets p ∙ ap (λ b. cond b w (get is_same old.pending p)) is

      gets_other : (p : Pending) → is_same of p ≡ false → get is_same new.pending p ≡ get is_same old.pending p
      gets_other p is = gets p ∙ ap (λ b. cond b w (get is_same old.pending p)) is

      known_own : known_in new of ≡ after h of (known_in old of)
      known_own = (λ j. known_of (routers of.peer j) (gets_own of (same-refl of) j)) ∙ at ∙ sym (ap (λ b. cond b (after_own h (known_in old of)) (known_in old of)) (concern of ∙ same-refl of))

      known : (p : Pending) (b : Bool) → is_same of p ≡ b → known_in new p ≡ after h p (known_in old p)
      known p true is = subst (λ (q : Pending). known_in new q ≡ after h q (known_in old q)) (same-eq of p is) known_own
      known p false is = (λ j. known_of (routers p.peer j) (gets_other p is j)) ∙ sym (ap (λ b. cond b (after_own h (known_in old p)) (known_in old p)) (concern p ∙ is))

      counted : AreCounted old → (p : Pending) (b : Bool) → is_same of p ≡ b → IfSome (get is_same new.pending p) (λ s. s.session ≤ (router_in new p.peer).sessions)
      counted all p true is = subst (λ (q : Pending). IfSome (get is_same new.pending q) (λ s. s.session ≤ (router_in new q.peer).sessions)) (same-eq of p is)
          (subst (λ (r : RouterKnown). IfSome (get is_same new.pending of) (λ s. s.session ≤ r.sessions)) (sym (routers of.peer))
          (subst (λ (s : Option PendingState). Fits old of.peer s) (sym (gets_own of (same-refl of))) (fits all)))
      counted all p false is = subst (λ (r : RouterKnown). IfSome (get is_same new.pending p) (λ s. s.session ≤ r.sessions)) (sym (routers p.peer))
          (subst (λ (s : Option PendingState). Fits old p.peer s) (sym (gets_other p is)) (all p))

      pub own : Adds old new h
      own = λ past knows. record {
        few = few knows.few;
        counted = λ p. counted knows.counted p (is_same of p) refl;
        known = λ p. known p (is_same of p) refl ∙ ap (after h p) (knows.known p);
      }

    -- it concerns a router, and all that it was granted
    module _ (peer : ℕ) (r : RouterKnown) (concern : (p : Pending) → concerns h p ≡ nat_eq peer p.peer)
        (routers : (q : ℕ) → router_in new q ≡ cond (nat_eq peer q) r (router_in old q))
        (gets : (p : Pending) → get is_same new.pending p ≡ get is_same old.pending p)
        (at : (s : Option PendingState) → Fits old peer s → known_of r s ≡ after_own h (known_of (router_in old peer) s))
        (more : (router_in old peer).sessions ≤ r.sessions) where
      router_own : (p : Pending) → nat_eq peer p.peer ≡ true → router_in new p.peer ≡ r
      router_own p is = routers p.peer ∙ ap (λ b. cond b r (router_in old p.peer)) is

      router_other : (p : Pending) → nat_eq peer p.peer ≡ false → router_in new p.peer ≡ router_in old p.peer
      router_other p is = routers p.peer ∙ ap (λ b. cond b r (router_in old p.peer)) is

      router_known : AreCounted old → (p : Pending) (b : Bool) → nat_eq peer p.peer ≡ b → known_in new p ≡ after h p (known_in old p)
      router_known all p true is =
          let here : peer ≡ p.peer = eqb-true peer p.peer is in
          let fits : Fits old peer (get is_same old.pending p) = subst (λ (q : ℕ). Fits old q (get is_same old.pending p)) (sym here) (all p) in
          (λ j. known_of (router_own p is j) (gets p j)) ∙ at (get is_same old.pending p) fits
          ∙ ap (λ (q : ℕ). after_own h (known_of (router_in old q) (get is_same old.pending p))) here
          ∙ sym (ap (λ b. cond b (after_own h (known_in old p)) (known_in old p)) (concern p ∙ is))
      router_known all p false is = (λ j. known_of (router_other p is j) (gets p j)) ∙ sym (ap (λ b. cond b (after_own h (known_in old p)) (known_in old p)) (concern p ∙ is))

      wider : (s : Option PendingState) → Fits old peer s → IfSome s (λ t. t.session ≤ r.sessions)
      wider None fits = fits
      wider (Some t) fits = omega (arith, fits, more)

      router_counted : AreCounted old → (p : Pending) (b : Bool) → nat_eq peer p.peer ≡ b → IfSome (get is_same new.pending p) (λ s. s.session ≤ (router_in new p.peer).sessions)
      router_counted all p true is =
          let here : peer ≡ p.peer = eqb-true peer p.peer is in
          subst (λ (q : RouterKnown). IfSome (get is_same new.pending p) (λ s. s.session ≤ q.sessions)) (sym (router_own p is))
          (wider (get is_same new.pending p) (subst (λ (s : Option PendingState). Fits old peer s) (sym (gets p)) (subst (λ (q : ℕ). Fits old q (get is_same old.pending p)) (sym here) (all p))))
      router_counted all p false is =
          subst (λ (q : RouterKnown). IfSome (get is_same new.pending p) (λ s. s.session ≤ q.sessions)) (sym (router_other p is))
          (subst (λ (s : Option PendingState). Fits old p.peer s) (sym (gets p)) (all p))

      pub of_router : Adds old new h
      of_router = λ past knows. record {
        few = few knows.few;
        counted = λ p. router_counted knows.counted p (nat_eq peer p.peer) refl;
        known = λ p. router_known knows.counted p (nat_eq peer p.peer) refl ∙ ap (after h p) (knows.known p);
      }

  -- it concerns one of them, and changes nothing
  pub stays : (h : PendingHappening) (of : Pending) → ((p : Pending) → concerns h p ≡ is_same of p) → ((peer : ℕ) → router_in new peer ≡ router_in old peer)
      → ((q : Pending) → get is_same new.pending q ≡ get is_same old.pending q)
      → known_of (router_in old of.peer) (get is_same old.pending of) ≡ after_own h (known_of (router_in old of.peer) (get is_same old.pending of)) → Adds old new h
  stays h of concern routers gets at = own h of (get is_same old.pending of) routers concern (λ q. gets q ∙ by q (is_same of q) refl) at (λ all. all of)
    where
      by : (q : Pending) (b : Bool) → is_same of q ≡ b → get is_same old.pending q ≡ cond (is_same of q) (get is_same old.pending of) (get is_same old.pending q)
      by q true is = ap (get is_same old.pending) (sym (same-eq of q is)) ∙ sym (ap (λ b. cond b (get is_same old.pending of) (get is_same old.pending q)) is)
      by q false is = sym (ap (λ b. cond b (get is_same old.pending of) (get is_same old.pending q)) is)

  -- it changes what is known of one that stands
  pub edits : (h : PendingHappening) (of : Pending) (s t : PendingState) → ((p : Pending) → concerns h p ≡ is_same of p) → new.routers ≡ old.routers
      → ((q : Pending) → get is_same new.pending q ≡ cond (is_same of q) (Some t) (get is_same old.pending q)) → get is_same old.pending of ≡ Some s
      → known_of (router_in old of.peer) (Some t) ≡ after_own h (known_of (router_in old of.peer) (Some s)) → t.session ≡ s.session → Adds old new h
  edits h of s t concern routers gets there at session = own h of (Some t) (λ peer. ap (λ m. unwrap_or (get nat_eq m peer) nobody) routers) concern gets
      (at ∙ ap (λ (o : Option PendingState). after_own h (known_of (router_in old of.peer) o)) (sym there))
      (λ all. subst (λ (n : ℕ). n ≤ (router_in old of.peer).sessions) (sym session) (subst (λ (o : Option PendingState). Fits old of.peer o) there (all of)))

-- the numbers of entries stay within the limits
pub few_states : (old new : PendingTable) → AreFew old → length new.pending.entries ≡ length old.pending.entries → new.routers ≡ old.routers → AreFew new
few_states old new few as_many routers =
    (omega (arith, as_many, few.0), omega (arith, ap (λ m. length m.entries) routers, few.1))

pub few_routers : (old new : PendingTable) → AreFew old → length new.routers.entries ≡ length old.routers.entries → new.pending ≡ old.pending → AreFew new
few_routers old new few as_many pending =
    (omega (arith, ap (λ m. length m.entries) pending, few.0), omega (arith, as_many, few.1))

-- ---- what is made

pub stands_on : (now_ms : ℕ) (of : Pending) (r : RouterKnown) (s : Option PendingState) → is_some s ≡ true → known_of r s ≡ after_own (Made of now_ms) (known_of r s)
stands_on now_ms of r None is = absurd (true≢false (sym is))
stands_on now_ms of r (Some s) is = refl

pub fresh : (now_ms : ℕ) (of : Pending) (r : RouterKnown) (s : Option PendingState) → is_some s ≡ false
    → known_of r (Some (record { since_ms = now_ms; session = r.sessions; is_covered = false })) ≡ after_own (Made of now_ms) (known_of r s)
fresh now_ms of r None is =
    ap (λ (b : Bool). record { is_up = r.is_up; in_sync = r.in_sync; stands = Some (record { since_ms = now_ms; is_covered = false; is_earlier = not b }) }) (nat_eq_equiv.refl r.sessions)
fresh now_ms of r (Some s) is = absurd (true≢false is)

-- ---- sessions

later_session : (m n : ℕ) → m ≤ n → not (nat_eq m (n + 1)) ≡ true
later_session m n le = grind (arith, nat_tests)

pub comes_up : (peer : ℕ) (r : RouterKnown) (s : Option PendingState) → IfSome s (λ t. t.session ≤ r.sessions)
    → known_of (record { sessions = r.sessions + 1; is_up = true; in_sync = false }) s ≡ after_own (Up peer) (known_of r s)
comes_up peer r None fits = refl
comes_up peer r (Some t) fits =
    ap (λ (b : Bool). record { is_up = true; in_sync = false; stands = Some (record { since_ms = t.since_ms; is_covered = t.is_covered; is_earlier = b }) }) (later_session t.session r.sessions fits)

pub goes_down : (peer : ℕ) (r : RouterKnown) (s : Option PendingState) → known_of (record r { is_up = false }) s ≡ after_own (Down peer) (known_of r s)
goes_down peer r None = refl
goes_down peer r (Some t) = refl

pub comes_in_sync : (peer : ℕ) (r : RouterKnown) (s : Option PendingState) → known_of (record r { in_sync = r.is_up || r.in_sync }) s ≡ after_own (SyncEnded peer) (known_of r s)
comes_in_sync peer r None = refl
comes_in_sync peer r (Some t) = refl

-- the routers after one is set
pub set_router : (old new : PendingTable) (peer : ℕ) (r : RouterKnown) → ((q : ℕ) → get nat_eq new.routers q ≡ cond (nat_eq peer q) (Some r) (get nat_eq old.routers q))
    → (q : ℕ) → router_in new q ≡ cond (nat_eq peer q) r (router_in old q)
set_router old new peer r gets q = ap (λ (o : Option RouterKnown). unwrap_or o nobody) (gets q) ∙ by (nat_eq peer q)
  where
    by : (b : Bool) → unwrap_or (cond b (Some r) (get nat_eq old.routers q)) nobody ≡ cond b r (router_in old q)
    by true = refl
    by false = refl

-- a router of which nothing is known
unknown_routers : (table : PendingTable) (peer : ℕ) → get nat_eq table.routers peer ≡ None → (q : ℕ) → router_in table q ≡ cond (nat_eq peer q) nobody (router_in table q)
unknown_routers table peer none q = by (nat_eq peer q) refl
  where
    by : (b : Bool) → nat_eq peer q ≡ b → router_in table q ≡ cond b nobody (router_in table q)
    by true is = ap (λ (o : Option RouterKnown). unwrap_or o nobody) (ap (get nat_eq table.routers) (sym (eqb-true peer q is)) ∙ none)
    by false is = refl

pub unknown_router : (table : PendingTable) (h : PendingHappening) (peer : ℕ) → ((p : Pending) → concerns h p ≡ nat_eq peer p.peer) → get nat_eq table.routers peer ≡ None
    → ((s : Option PendingState) → known_of nobody s ≡ after_own h (known_of nobody s)) → Adds table table h
unknown_router table h peer concern none at =
    let is : router_in table peer ≡ nobody = ap (λ (o : Option RouterKnown). unwrap_or o nobody) none in
    let none_yet : (router_in table peer).sessions ≡ 0 = ap (λ (r : RouterKnown). r.sessions) is in
    of_router table table (λ few. few) h peer nobody concern (unknown_routers table peer none) (λ p. refl)
    (λ s fits. at s ∙ ap (λ (r : RouterKnown). after_own h (known_of r s)) (sym is)) (omega (arith, none_yet))

-- what is known of a router that came before changes
pub known_router : (old new : PendingTable) (few : AreFew old → AreFew new) (h : PendingHappening) (peer : ℕ) (change : RouterKnown → RouterKnown) (was is : RouterKnown)
    → ((p : Pending) → concerns h p ≡ nat_eq peer p.peer) → ((r : RouterKnown) → (change r).sessions ≡ r.sessions)
    → ((r : RouterKnown) (s : Option PendingState) → known_of (change r) s ≡ after_own h (known_of r s)) → get nat_eq old.routers peer ≡ Some was → is ≡ change was
    → ((q : ℕ) → get nat_eq new.routers q ≡ cond (nat_eq peer q) (Some is) (get nat_eq old.routers q)) → new.pending ≡ old.pending → Adds old new h
known_router old new few h peer change was is concern counts at got changed written pending =
    let there : router_in old peer ≡ was = ap (λ (o : Option RouterKnown). unwrap_or o nobody) got in
    let becomes : is ≡ change (router_in old peer) = changed ∙ ap change (sym there) in
    let as_many : is.sessions ≡ (router_in old peer).sessions = ap (λ (r : RouterKnown). r.sessions) becomes ∙ counts (router_in old peer) in
    of_router old new few h peer is concern (set_router old new peer is written) (λ p. ap (λ m. get is_same m p) pending)
    (λ s fits. ap (λ (r : RouterKnown). known_of r s) becomes ∙ at (router_in old peer) s) (omega (arith, as_many))

-- a router is forgotten
pub forgets : (old new : PendingTable) (few : AreFew old → AreFew new) (peer : ℕ) → ((q : ℕ) → get nat_eq new.routers q ≡ cond (nat_eq peer q) None (get nat_eq old.routers q))
    → new.pending.entries ≡ filter (λ e. not (nat_eq e.0.peer peer)) old.pending.entries → Adds old new (Expired peer)
forgets old new few peer gets entries = λ past knows. record {
  few = few knows.few;
  counted = λ p. counted knows.counted p (nat_eq p.peer peer) refl;
  known = λ p. known p (nat_eq p.peer peer) refl ∙ ap (after (Expired peer) p) (knows.known p);
}
  where
    kept : (p : Pending) → get is_same new.pending p ≡ cond (not (nat_eq p.peer peer)) (get is_same old.pending p) None
    kept p = ap (lookup (is_same p)) entries
        ∙ lookup-filter-keys (is_same p) (λ (q : Pending). not (nat_eq q.peer peer)) (not (nat_eq p.peer peer)) (λ q is. ap (λ (r : Pending). not (nat_eq r.peer peer)) (sym (same-eq p q is))) old.pending.entries

    routers : (q : ℕ) (b : Bool) → nat_eq q peer ≡ b → router_in new q ≡ cond b nobody (router_in old q)
    routers q true is = ap (λ (o : Option RouterKnown). unwrap_or o nobody) (gets q ∙ ap (λ b. cond b None (get nat_eq old.routers q)) (nat_eq_equiv.symm peer q ∙ is))
    routers q false is = ap (λ (o : Option RouterKnown). unwrap_or o nobody) (gets q ∙ ap (λ b. cond b None (get nat_eq old.routers q)) (nat_eq_equiv.symm peer q ∙ is))

    known : (p : Pending) (b : Bool) → nat_eq p.peer peer ≡ b → known_in new p ≡ after (Expired peer) p (known_in old p)
    known p true is = (λ j. known_of (routers p.peer true is j) ((kept p ∙ ap (λ b. cond (not b) (get is_same old.pending p) None) is) j))
        ∙ sym (ap (λ b. cond b (after_own (Expired peer) (known_in old p)) (known_in old p)) (nat_eq_equiv.symm peer p.peer ∙ is))
    known p false is = (λ j. known_of (routers p.peer false is j) ((kept p ∙ ap (λ b. cond (not b) (get is_same old.pending p) None) is) j))
        ∙ sym (ap (λ b. cond b (after_own (Expired peer) (known_in old p)) (known_in old p)) (nat_eq_equiv.symm peer p.peer ∙ is))

    counted : AreCounted old → (p : Pending) (b : Bool) → nat_eq p.peer peer ≡ b → IfSome (get is_same new.pending p) (λ s. s.session ≤ (router_in new p.peer).sessions)
    counted all p true is =
        let none : get is_same new.pending p ≡ None = kept p ∙ ap (λ b. cond (not b) (get is_same old.pending p) None) is in
        subst (λ (s : Option PendingState). IfSome s (λ t. t.session ≤ (router_in new p.peer).sessions)) (sym none) tt
    counted all p false is =
        let kept_on : get is_same new.pending p ≡ get is_same old.pending p = kept p ∙ ap (λ b. cond (not b) (get is_same old.pending p) None) is in
        subst (λ (r : RouterKnown). IfSome (get is_same new.pending p) (λ s. s.session ≤ r.sessions)) (sym (routers p.peer false is))
        (subst (λ (s : Option PendingState). Fits old p.peer s) (sym kept_on) (all p))
