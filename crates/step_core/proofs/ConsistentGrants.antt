-- Asking a peer for something under a free SRP-ID leaves the state consistent.
use Rattle.std.proofs.Common.{◌≡◌, ◌≤◌, ◌<◌, ◌==◌, ◌&&◌, ◌||◌, ℕ, ◌+◌, Bool, true, false, not, nat_lt, nat_le, List, [], ◌∷◌, length, refl, sym, ap, ◌∙◌, subst, arith}
use Rattle.std.specs.Prelude.{Option, Some, None, option_map, if◌then◌else◌}
use Rattle.std.specs.List.{list_any}
use Rattle.std.specs.Cmp.{nat_eq_equiv}
use Rattle.std.proofs.lemmas.Bool.{and_from, and_parts, eqb-true}
use Rattle.std.proofs.lemmas.Bool.Decides.{nat_tests}
use Rattle.pcep_messages.specs.declared.message.Message.{Message}
use Rattle.lsp_base.specs.Lsps.{Lsps, AreDistinct, changed, is_path_of, is_record_of, lsp_at, no_effect}
use Rattle.lsp_base.specs.Grants.{has_grant, has_srp, is_grant_of, is_unbound_grant}
use Rattle.lsp_base.specs.Pending.{is_delegated, is_grant_as, is_removed_as, is_pending}
use Rattle.lsp_base.specs.Refusals.{unless}
use Rattle.lsp_base.specs.declared.lsp.Lsp.{Lsp}
use Rattle.lsp_base.specs.declared.path.Path.{Path}
use Rattle.lsp_base.specs.declared.effect.Record.{Record}
use Rattle.lsp_base.specs.declared.why.Why.TheVariants.{SrpInUse}
use Rattle.delegate_rules.specs.Effects.{one_record}
use Rattle.initiate_rules.specs.Messages.{delete_message}
use Rattle.initiate_rules.specs.Numbers.{is_srp_used, next_srp}
use Rattle.commit_core.specs.Offers.{granted_plsp, is_request, offered_path}
use Rattle.commit_core.specs.Routes.{is_acceptable}
use Rattle.commit_core.specs.Verdicts.{is_gone, is_moot, verdict}
use Rattle.commit_core.specs.declared.ticket.Purpose.{Purpose}
use Rattle.commit_core.specs.declared.ticket.Purpose.TheVariants as purposes
use Rattle.commit_core.specs.declared.ticket.Ticket.{Ticket}
use Rattle.commit_core.specs.declared.verdict.PeerView.{PeerView}
use Rattle.commit_core.specs.declared.verdict.Verdict.TheVariants as verdicts
use Rattle.step_core.specs.Consistent.{AreFree, AreRising, asked_as, count, IsConsistent, NoneAbove}
use Rattle.step_core.specs.Grants.{asking, granted, granting, message_of, name_of_grant, path_of, verdict_on, view_of, with_name}
use Rattle.step_core.specs.Names.{is_of_grant}
use Rattle.step_core.specs.Outcomes.{must_have_a_number}
use Rattle.step_core.specs.States.{State, asked, is_peer, next_number, peer_at, put_peer}
use Rattle.step_core.specs.Steps.{after_delete, removal_asked, removing}
use Rattle.step_core.specs.declared.names.AwaitedName.{AwaitedName}
use Rattle.step_core.specs.declared.peer.Peer.{Peer}
use Rattle.step_core.proofs.Consistent.{Keeps, Rise, keeps_effect, has_paths, number_of, put_rise}
use Rattle.step_core.proofs.Counts.{one, count-append, count-exchanged, count-fewer, count_of_none, none_of}
use Rattle.step_core.proofs.Dropped.{has_none}
use Rattle.step_core.proofs.Kept.{no_effect-keeps, one_record-keeps}
use Rattle.step_core.proofs.PeerCounts.{put_peer-once, put_peer-own}
use Rattle.step_core.proofs.Plain.{no_effect-plain, sets_numbered}
use Rattle.step_core.proofs.RecordCounts.{known_numbered, put_awaiting, set-numbered}
use Rattle.ticket_table.proofs.TicketOrders.{order_without}
use Rattle.lsp_base.proofs.Distinct.{set_records_distinct}

-- ---- SRP-IDs that are free

-- no grant or awaited removal has an SRP-ID that isn't used
pub none_used : (base : Lsps) (n k : ℕ) → is_srp_used base n k ≡ false → asked_as base n k ≡ 0
none_used base n k free =
    let grants = count_of_none (is_grant_as n k) base.paths (left (list_any (is_grant_as n k) base.paths) _ free) in
    let removals = count_of_none (is_removed_as n k) base.records (right (list_any (is_grant_as n k) base.paths) _ free) in
    omega (arith, grants, removals)
  where
    left : (a b : Bool) → (a || b) ≡ false → a ≡ false
    left true b is = is
    left false b is = refl

    right : (a b : Bool) → (a || b) ≡ false → b ≡ false
    right true b is = absurd (cc (is))
    right false b is = is

pub used_by : (base : Lsps) (n k : ℕ) → asked_as base n k ≡ 0 → is_srp_used base n k ≡ false
used_by base n k none =
    let grants = none_of (is_grant_as n k) base.paths (omega (arith, none)) in
    let removals = none_of (is_removed_as n k) base.records (omega (arith, none)) in
    ap (λ (b : Bool). b || list_any (is_removed_as n k) base.records) grants ∙ removals

below : (a b : ℕ) → a < b → (a == b) ≡ false
below a b lt = grind (arith, nat_tests)

next_is : (last : ℕ) → last < 0xFFFFFFFE → next_srp last ≡ last + 1
next_is last low = grind (arith, nat_tests)

-- the next SRP-ID is free if none is above the last, and no last one is the greatest
pub free_next : (s : State) → NoneAbove s → AreRising s → AreFree s
free_next s above rising = record {
  free = λ n. (
      let next = next_is (peer_at s.peers n).last_srp (rising.low n) in
      used_by s.base n (next_number s n) (above.none n (next_number s n) (omega (arith, next))));
}

-- ---- peers

-- the peer may be asked for something, sent a message, or put into another session
pub keeps_once : (s : State) (p : Peer) → IsConsistent s → (m : ℕ) → count (is_peer m) (put_peer s.peers p) ≤ 1
keeps_once s p c m = put_peer-once p m s.peers (c.peers m)

pub asked_rises : (s : State) (n : ℕ) (message : Message) → AreRising s → Rise s.peers (put_peer s.peers (asked (peer_at s.peers n) message))
asked_rises s n message rising =
    let next = next_is (peer_at s.peers n).last_srp (rising.low n) in
    put_rise s.peers n (asked (peer_at s.peers n) message) (number_of n s.peers) (omega (arith, next))

-- ---- one more grant or awaited removal, under the next SRP-ID

asked_once : (s : State) (base : Lsps) (n srp : ℕ) → IsConsistent s → asked_as s.base n srp ≡ 0 → ((m k : ℕ) → asked_as base m k ≤ asked_as s.base m k + one (n == m && srp == k)) → (m k : ℕ) → asked_as base m k ≤ 1
asked_once s base n srp c free more m k = by (n == m && srp == k) refl (more m k)
  where
    by : (b : Bool) → (n == m && srp == k) ≡ b → asked_as base m k ≤ asked_as s.base m k + one b → asked_as base m k ≤ 1
    by true is more =
        let parts = and_parts (n == m) (srp == k) is in
        let none : asked_as s.base m k ≡ 0 = subst (λ (j : ℕ). asked_as s.base j k ≡ 0) (eqb-true n m parts.0) (subst (λ (j : ℕ). asked_as s.base n j ≡ 0) (eqb-true srp k parts.1) free) in
        omega (arith, none, more)
    by false is more = let few = c.asked m k in omega (arith, few, more)

none_with : (s t : State) (n : ℕ) (message : Message) → t.peers ≡ put_peer s.peers (asked (peer_at s.peers n) message) → ((m k : ℕ) → asked_as t.base m k ≤ asked_as s.base m k + one (n == m && next_number s n == k)) → NoneAbove s → AreRising s → NoneAbove t
none_with s t n message peers more above rising = record { none = λ m k lt. by m k (n == m) refl lt (more m k) }
  where
    next : next_number s n ≡ (peer_at s.peers n).last_srp + 1
    next = next_is (peer_at s.peers n).last_srp (rising.low n)

    by : (m k : ℕ) (b : Bool) → (n == m) ≡ b → (peer_at t.peers m).last_srp < k → asked_as t.base m k ≤ asked_as s.base m k + one (b && next_number s n == k) → asked_as t.base m k ≡ 0
    by m k true is lt more =
        let rise = asked_rises s n message rising m in
        let same = ap (λ (ps : List Peer). (peer_at ps m).last_srp) peers in
        let own : (peer_at (put_peer s.peers (asked (peer_at s.peers n) message)) m).last_srp ≡ next_number s n = subst (λ (j : ℕ). (peer_at (put_peer s.peers (asked (peer_at s.peers n) message)) j).last_srp ≡ next_number s n) (number_of n s.peers ∙ eqb-true n m is) (ap (λ (p : Peer). p.last_srp) (put_peer-own (asked (peer_at s.peers n) message) s.peers)) in
        let apart : (next_number s n == k) ≡ false = below (next_number s n) k (omega (arith, lt, same, own)) in
        let e = ap one apart in
        let none = above.none m k (omega (arith, lt, same, rise)) in
        omega (arith, none, more, e)
    by m k false other lt more =
        let rise = asked_rises s n message rising m in
        let same = ap (λ (ps : List Peer). (peer_at ps m).last_srp) peers in
        let none = above.none m k (omega (arith, lt, same, rise)) in
        omega (arith, none, more)

-- ---- an LSP whose removal is asked for

free_by : (s : State) (n : ℕ) → must_have_a_number s n ≡ None → is_srp_used s.base n (next_number s n) ≡ false
free_by s n is = by (is_srp_used s.base n (next_number s n)) is
  where
    by : (b : Bool) → unless (not b) SrpInUse ≡ None → b ≡ false
    by true is = absurd (cc (is))
    by false is = refl

more_removals : (base : Lsps) (n plsp srp : ℕ) (lsp : Lsp) (m k : ℕ) → asked_as (changed base n (removal_asked srp plsp (Some lsp))) m k ≤ asked_as base m k + one (n == m && srp == k)
unfolding changed
more_removals base n plsp srp lsp m k =
    let paths = count-exchanged (is_grant_as m k) base.paths [] [] (has_none base.paths) in
    let more = put_awaiting m k n plsp srp (removing srp lsp) base.records refl in
    omega (arith, paths, more)

same_unbound : (base : Lsps) (n plsp srp : ℕ) (lsp : Lsp) (m k : ℕ) → count (is_unbound_grant m (Some k)) (changed base n (removal_asked srp plsp (Some lsp))).paths ≡ count (is_unbound_grant m (Some k)) base.paths
unfolding changed
same_unbound base n plsp srp lsp m k = let paths = count-exchanged (is_unbound_grant m (Some k)) base.paths [] [] (has_none base.paths) in omega (arith, paths)

removal-numbered : (base : Lsps) (n plsp srp : ℕ) (lsp : Lsp) → (plsp == 0) ≡ false → count (λ r. r.plsp == 0) base.records ≡ 0 → count (λ r. r.plsp == 0) (changed base n (removal_asked srp plsp (Some lsp))).records ≡ 0
unfolding changed
removal-numbered base n plsp srp lsp bound numbered =
    let more = set-numbered n base.records (one_record plsp (removing srp lsp)) in
    let none = sets_numbered plsp (removing srp lsp) bound in
    omega (arith, more, none, numbered)

removal-distinct : (base : Lsps) (n plsp srp : ℕ) (lsp : Lsp) → AreDistinct base.records → AreDistinct (changed base n (removal_asked srp plsp (Some lsp))).records
unfolding changed
removal-distinct base n plsp srp lsp distinct = set_records_distinct n base.records (one_record plsp (removing srp lsp)) distinct

keeps_removal : (s : State) (n plsp : ℕ) (o : Option Lsp) → lsp_at s.base.records n plsp ≡ o → IsConsistent s → is_srp_used s.base n (next_number s n) ≡ false → Keeps s (asking s n (removal_asked (next_number s n) plsp o) (delete_message (next_number s n) plsp))
keeps_removal s n plsp None known c free =
    let message = delete_message (next_number s n) plsp in
    keeps_effect s _ n no_effect c (no_effect-plain s.base n) (no_effect-keeps s.base n (has_paths s c)) refl refl (keeps_once s (asked (peer_at s.peers n) message) c) (asked_rises s n message) c.tickets
keeps_removal s n plsp (Some lsp) known c free =
    let srp = next_number s n in
    let message = delete_message srp plsp in
    let keeps = one_record-keeps s.base n plsp lsp (removing srp lsp) (has_paths s c) known in
    record {
      consistent = record {
        distinct = removal-distinct s.base n plsp srp lsp c.distinct;
        numbered = removal-numbered s.base n plsp srp lsp (known_numbered n plsp lsp s.base.records c.numbered known) c.numbered;
        asked = asked_once s (changed s.base n (removal_asked srp plsp (Some lsp))) n srp c (none_used s.base n srp free) (more_removals s.base n plsp srp lsp);
        names = λ m k. (c.names m k ∙ sym (same_unbound s.base n plsp srp lsp m k));
        grants = keeps.grants;
        kept = keeps.kept;
        peers = keeps_once s (asked (peer_at s.peers n) message) c;
        tickets = c.tickets;
      };
      none = none_with s (asking s n (removal_asked srp plsp (Some lsp)) message) n message refl (more_removals s.base n plsp srp lsp);
    }

pub keeps_delete : (s : State) (n plsp : ℕ) → IsConsistent s → must_have_a_number s n ≡ None → Keeps s (after_delete s n plsp)
keeps_delete s n plsp c is = keeps_removal s n plsp (lsp_at s.base.records n plsp) refl c (free_by s n is)

-- ---- a path that is granted

-- what a grant says about the peer, the LSP and the SRP-ID
pub record MayGrant (s : State) (t : Ticket) : Type 0 where
  pub asks : is_request t.purpose ≡ false
  pub held : is_moot s.base t.peer t.purpose ≡ false
  pub free : is_srp_used s.base t.peer (next_number s t.peer) ≡ false

offer_granted : (gone acceptable low request many used : Bool) → (if gone then verdicts.Gone else (if acceptable then (if request then verdicts.Answer else (if many || used then verdicts.GivenUp else verdicts.Grant)) else (if low then verdicts.Again else verdicts.GivenUp))) ≡ verdicts.Grant → (gone ≡ false) × (request ≡ false) × (used ≡ false)
offer_granted true acceptable low request many used is = absurd (cc (is))
offer_granted false false true request many used is = absurd (cc (is))
offer_granted false false false request many used is = absurd (cc (is))
offer_granted false true low true many used is = absurd (cc (is))
offer_granted false true low false true used is = absurd (cc (is))
offer_granted false true low false false true is = absurd (cc (is))
offer_granted false true low false false false is = (refl, refl, refl)

nothing_granted : (gone same low : Bool) → (if gone then verdicts.Gone else (if same then verdicts.NoPath else (if low then verdicts.Again else verdicts.NoPath))) ≡ verdicts.Grant → ⊥
nothing_granted true same low is = cc
nothing_granted false true low is = cc
nothing_granted false false true is = cc
nothing_granted false false false is = cc

moot_by : (up rest moot : Bool) → (not up || (rest || moot)) ≡ false → moot ≡ false
moot_by true true moot is = absurd (cc (is))
moot_by true false moot is = is
moot_by false rest moot is = absurd (cc (is))

grant_by : (s : State) (t : Ticket) (offer : Option (List ℕ)) (v : PeerView) → v ≡ view_of s t.peer → verdict t (option_map (path_of s t) offer) s.base s.te v ≡ verdicts.Grant → MayGrant s t
unfolding verdict
grant_by s t None v same is = absurd (nothing_granted (is_gone s.base t v) (v.changes == t.seen) (nat_lt t.tries 4) is)
grant_by s t (Some links) v same is =
    let facts = offer_granted (is_gone s.base t v) (is_acceptable s.te s.base.paths t.constraints (path_of s t links)) (nat_lt t.tries 4) (is_request t.purpose) (nat_le 16384 (length s.base.paths)) v.srp_in_use is in
    record {
      asks = facts.1;
      held = moot_by (v.up && v.session == t.session) (not (is_request t.purpose) && v.syncing) (is_moot s.base t.peer t.purpose) facts.0;
      free = ap (λ (w : PeerView). w.srp_in_use) (sym same) ∙ facts.2;
    }

pub may_grant : (s : State) (t : Ticket) (offer : Option (List ℕ)) → verdict_on s t offer ≡ verdicts.Grant → MayGrant s t
may_grant s t offer is = grant_by s t offer (view_of s t.peer) refl is

-- an LSP that is updated has a record, and so a PLSP-ID
updated_bound : (base : Lsps) (n plsp : ℕ) (o : Option Lsp) → lsp_at base.records n plsp ≡ o → count (λ r. r.plsp == 0) base.records ≡ 0 → (not (is_delegated o) || is_pending base n plsp) ≡ false → (plsp == 0) ≡ false
updated_bound base n plsp None known numbered is = absurd (cc (is))
updated_bound base n plsp (Some lsp) known numbered is = known_numbered n plsp lsp base.records numbered known

unbound_one : (n m k srp : ℕ) → one (n == m && srp == k) ≡ one (n == m && true && k == srp)
unbound_one n m k srp = ap one (by (n == m) ∙ ap (λ (b : Bool). n == m && true && b) (nat_eq_equiv.symm srp k))
  where
    by : (b : Bool) → (b && srp == k) ≡ (b && true && srp == k)
    by true = refl
    by false = refl

-- the name is held together with the grant
name_held : (base : Lsps) (names : List AwaitedName) (n srp : ℕ) (p : Purpose) → is_request p ≡ false → is_moot base n p ≡ false → count (λ r. r.plsp == 0) base.records ≡ 0 → (m k : ℕ)
    → count (is_of_grant m k) (with_name names (name_of_grant n srp p)) ≡ count (is_of_grant m k) names + one (n == m && granted_plsp p == 0 && k == srp)
name_held base names n srp (purposes.Update plsp) asks held numbered m k =
    let bound = updated_bound base n plsp (lsp_at base.records n plsp) refl numbered held in
    let e = ap (λ (b : Bool). one (n == m && b && k == srp)) bound in
    let none : one (n == m && false && k == srp) ≡ 0 = by (n == m) in
    omega (arith, e, none)
  where
    by : (b : Bool) → one (b && false && k == srp) ≡ 0
    by true = refl
    by false = refl
name_held base names n srp (purposes.Initiate name constraints) asks held numbered m k =
    let a : AwaitedName = record { peer = n; srp = srp; name = name } in
    let more = count-append (is_of_grant m k) names (a ∷ []) in
    let same = unbound_one n m k srp in
    omega (arith, more, same)
name_held base names n srp (purposes.Answer request plsp constraints) asks held numbered m k = absurd (cc (asks))

grant_paths : (base : Lsps) (n : ℕ) (g : Path) (p : Path → Bool) → count p (changed base n (granting g)).paths ≡ count p base.paths + one (p g)
unfolding changed
grant_paths base n g p = let paths = count-exchanged p base.paths [] (g ∷ []) (has_none base.paths) in omega (arith, paths)

grant_records : (base : Lsps) (n : ℕ) (g : Path) → (changed base n (granting g)).records ≡ base.records
unfolding changed
grant_records base n g = refl

is_grant_offered : (s : State) (t : Ticket) (links : List ℕ) (m k : ℕ) → one (is_grant_as m k (path_of s t links)) ≡ one (t.peer == m && next_number s t.peer == k)
unfolding offered_path
is_grant_offered s t links m k = ap (λ (b : Bool). one (t.peer == m && b)) (nat_eq_equiv.symm k (next_number s t.peer))

is_unbound_offered : (s : State) (t : Ticket) (links : List ℕ) (m k : ℕ) → is_unbound_grant m (Some k) (path_of s t links) ≡ (t.peer == m && granted_plsp t.purpose == 0 && k == next_number s t.peer)
unfolding offered_path
is_unbound_offered s t links m k = refl

more_grants : (s : State) (t : Ticket) (links : List ℕ) (m k : ℕ) → asked_as (changed s.base t.peer (granting (path_of s t links))) m k ≤ asked_as s.base m k + one (t.peer == m && next_number s t.peer == k)
more_grants s t links m k =
    let paths = grant_paths s.base t.peer (path_of s t links) (is_grant_as m k) in
    let records = ap (count (is_removed_as m k)) (grant_records s.base t.peer (path_of s t links)) in
    let one_is = is_grant_offered s t links m k in
    omega (arith, paths, records, one_is)

-- an LSP that is updated has no grant yet
updated_none : (base : Lsps) (n plsp : ℕ) → (not (is_delegated (lsp_at base.records n plsp)) || is_pending base n plsp) ≡ false → count (is_grant_of n plsp) base.paths ≡ 0
updated_none base n plsp is = count_of_none (is_grant_of n plsp) base.paths (left_false (has_grant base.paths n plsp) _ (right_false (not (is_delegated (lsp_at base.records n plsp))) (is_pending base n plsp) is))
  where
    left_false : (a b : Bool) → (a || b) ≡ false → a ≡ false
    left_false true b is = is
    left_false false b is = refl

    right_false : (a b : Bool) → (a || b) ≡ false → b ≡ false
    right_false true b is = absurd (cc (is))
    right_false false b is = is

is_grant_of_offered : (s : State) (t : Ticket) (links : List ℕ) (m q : ℕ) → is_grant_of m q (path_of s t links) ≡ (t.peer == m && granted_plsp t.purpose == q && true)
unfolding offered_path
is_grant_of_offered s t links m q = refl

none_before : (base : Lsps) (n : ℕ) (p : Purpose) → is_request p ≡ false → is_moot base n p ≡ false → (granted_plsp p == 0) ≡ false → count (is_grant_of n (granted_plsp p)) base.paths ≡ 0
none_before base n (purposes.Update plsp) asks held bound = updated_none base n plsp held
none_before base n (purposes.Initiate name constraints) asks held bound = absurd (cc (bound))
none_before base n (purposes.Answer request plsp constraints) asks held bound = absurd (cc (asks))

one_grant : (s : State) (t : Ticket) (links : List ℕ) → IsConsistent s → MayGrant s t → (m q : ℕ) → (q == 0) ≡ false → count (is_grant_of m q) (changed s.base t.peer (granting (path_of s t links))).paths ≤ 1
one_grant s t links c may m q bound = by (t.peer == m && granted_plsp t.purpose == q) refl
  where
    by : (b : Bool) → (t.peer == m && granted_plsp t.purpose == q) ≡ b → count (is_grant_of m q) (changed s.base t.peer (granting (path_of s t links))).paths ≤ 1
    by true is =
        let parts = and_parts (t.peer == m) (granted_plsp t.purpose == q) is in
        let same : granted_plsp t.purpose ≡ q = eqb-true (granted_plsp t.purpose) q parts.1 in
        let none = none_before s.base t.peer t.purpose may.asks may.held (ap (λ (k : ℕ). k == 0) same ∙ bound) in
        let at : count (is_grant_of m q) s.base.paths ≡ 0 = subst (λ (j : ℕ). count (is_grant_of j q) s.base.paths ≡ 0) (eqb-true t.peer m parts.0) (subst (λ (j : ℕ). count (is_grant_of t.peer j) s.base.paths ≡ 0) same none) in
        let paths = grant_paths s.base t.peer (path_of s t links) (is_grant_of m q) in
        let few = one_few (is_grant_of m q (path_of s t links)) in
        omega (arith, at, paths, few)
      where
        one_few : (b : Bool) → one b ≤ 1
        one_few true = omega arith
        one_few false = omega arith
    by false is =
        let paths = grant_paths s.base t.peer (path_of s t links) (is_grant_of m q) in
        let none = ap one (is_grant_of_offered s t links m q ∙ ap (λ (b : Bool). b && true) is) in
        let few = c.grants m q bound in
        omega (arith, paths, none, few)

pub keeps_granted : (s : State) (t : Ticket) (links : List ℕ) → IsConsistent s → MayGrant s t → Keeps s (granted s t links)
keeps_granted s t links c may =
    let n = t.peer in
    let srp = next_number s t.peer in
    let g = path_of s t links in
    let message = message_of s.te.links srp t.constraints links t.purpose in
    record {
      consistent = record {
        distinct = subst AreDistinct (sym (grant_records s.base n g)) c.distinct;
        numbered = ap (λ (rs : List Record). count (λ r. r.plsp == 0) rs) (grant_records s.base n g) ∙ c.numbered;
        asked = asked_once s (changed s.base n (granting g)) n srp c (none_used s.base n srp may.free) (more_grants s t links);
        names = λ m k. (
            let held = name_held s.base s.names n srp t.purpose may.asks may.held c.numbered m k in
            let paths = grant_paths s.base n g (is_unbound_grant m (Some k)) in
            let unbound = ap one (is_unbound_offered s t links m k) in
            let same = c.names m k in
            omega (arith, held, paths, unbound, same));
        grants = λ m q bound. one_grant s t links c may m q bound;
        kept = λ m q bound. (
            let paths = grant_paths s.base n g (is_path_of m q) in
            let records = ap (count (is_record_of m q)) (grant_records s.base n g) in
            let before = c.kept m q bound in
            omega (arith, paths, records, before));
        peers = keeps_once s (asked (peer_at s.peers n) message) c;
        tickets = order_without t.id s.last_ticket s.tickets c.tickets;
      };
      none = none_with s (granted s t links) n message refl (more_grants s t links);
    }

-- no name is held for the next SRP-ID
pub no_name_yet : (s : State) (n : ℕ) → IsConsistent s → is_srp_used s.base n (next_number s n) ≡ false → list_any (is_of_grant n (next_number s n)) s.names ≡ false
no_name_yet s n c free =
    let srp = next_number s n in
    let none = none_used s.base n srp free in
    let same = c.names n srp in
    let fewer = count-fewer (is_unbound_grant n (Some srp)) (is_grant_as n srp) (λ x is. bound x is) s.base.paths in
    none_of (is_of_grant n srp) s.names (omega (arith, none, same, fewer))
  where
    bound : (x : Path) → is_unbound_grant n (Some (next_number s n)) x ≡ true → is_grant_as n (next_number s n) x ≡ true
    bound x is =
        let parts = and_parts (x.peer == n && x.plsp == 0) (has_srp (Some (next_number s n)) x.part) is in
        and_from (x.peer == n) (has_srp (Some (next_number s n)) x.part) (and_parts (x.peer == n) (x.plsp == 0) parts.0).0 parts.1
