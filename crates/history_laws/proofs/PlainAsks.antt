-- What is known of peers, what they are asked for, and the results don't depend on local protection.
use Rattle.std.proofs.Common.{◌≡◌, ◌∙◌, ◌==◌, ◌&&◌, ◌||◌, ℕ, Bool, true, false, cond, not, nat_lt, List, [], ◌∷◌, map, find, refl, sym, ap}
use Rattle.std.specs.Prelude.{Option, Some, None, is_some, option_map, unwrap_or, if◌then◌else◌}
use Rattle.std.specs.List.{list_any}
use Rattle.std.proofs.lemmas.List.{length-map, map-append}
use Rattle.pcep_messages.specs.declared.message.Message.{Message}
use Rattle.te_base.specs.Ted.{Ted}
use Rattle.te_base.specs.declared.network.Link.{Link}
use Rattle.lsp_base.specs.Grants.{has_grant}
use Rattle.lsp_base.specs.Lsps.{Lsps, lsp_at}
use Rattle.lsp_base.specs.Pending.{is_delegated, is_removing}
use Rattle.lsp_base.specs.Refusals.{unless, ◌⨟◌}
use Rattle.lsp_base.specs.declared.effect.Record.{Record}
use Rattle.lsp_base.specs.declared.lsp.Constraints.{Constraints}
use Rattle.lsp_base.specs.declared.lsp.Lsp.{Lsp}
use Rattle.lsp_base.specs.declared.path.Path.{Path}
use Rattle.lsp_base.specs.declared.tunnel.Tunnel.{Tunnel}
use Rattle.lsp_base.specs.declared.tunnel.Tunnel.TheVariants.{Unsignalled}
use Rattle.lsp_base.specs.declared.why.Why.TheVariants.{NameInUse, NoInitiate, NoUpdate, PeerDown, PeerUp, Pending, SrpInUse, Syncing, TooManyPeers, TooManyTickets, UnknownPeer}
use Rattle.initiate_rules.specs.Checks.{is_named}
use Rattle.initiate_rules.specs.Messages.{answer_message, initiate_message, update_message}
use Rattle.initiate_rules.specs.Numbers.{is_srp_used, next_srp}
use Rattle.commit_core.specs.Offers.{granted_plsp, granted_tunnel, is_request, offered_path, own_tunnel, tunnel_known, tunnel_named}
use Rattle.commit_core.specs.Routes.{is_acceptable, is_route}
use Rattle.commit_core.specs.Verdicts.{cannot_be_granted, is_gone, is_moot, judged as judge, unless_tried, verdict}
use Rattle.commit_core.specs.declared.ticket.Purpose.{Purpose}
use Rattle.commit_core.specs.declared.ticket.Purpose.TheVariants as purposes
use Rattle.commit_core.specs.declared.ticket.Ticket.{Ticket}
use Rattle.commit_core.specs.declared.verdict.PeerView.{PeerView}
use Rattle.commit_core.specs.declared.verdict.Verdict.{Verdict}
use Rattle.commit_core.specs.declared.verdict.Verdict.TheVariants as verdicts
use Rattle.ticket_table.specs.Tickets.{is_initiation_for, is_initiation_of, is_name_asked, is_update_asked, is_update_for, is_update_of}
use Rattle.step_core.specs.Asks.{constraints_for, may_be_asked, may_have_one_more}
use Rattle.step_core.specs.Grants.{message_of, name_of_grant, path_of, verdict_on, view_of}
use Rattle.step_core.specs.Outcomes.{must_be_down, must_be_known, must_be_up, must_have_a_number, must_take_initiations, must_take_updates}
use Rattle.step_core.specs.States.{State, asked, is_awaited_as, is_known, is_peer, next_number, peer_at, put_peer, unknown_peer, with_message}
use Rattle.step_core.specs.Steps.{may_be_known}
use Rattle.step_core.specs.declared.peer.Peer.{Peer}
use Rattle.history_laws.specs.Plain.{plain, plain_constraints, plain_lsp, plain_lsps, plain_message, plain_peer, plain_purpose, plain_record, plain_ticket}
use Rattle.history_laws.proofs.Mapped.{any-map, find-map, some-map}
use Rattle.history_laws.proofs.PlainLsps.{held_plain, lsp_plain, used_plain}

-- ---- a peer

pub peer_plain : (ps : List Peer) (n : ℕ) → peer_at (map plain_peer ps) n ≡ plain_peer (peer_at ps n)
peer_plain ps n = ap (λ (o : Option Peer). unwrap_or o (unknown_peer n)) (find-map plain_peer (is_peer n) (λ p. refl) ps) ∙ by (find (is_peer n) ps)
  where
    by : (o : Option Peer) → unwrap_or (option_map plain_peer o) (unknown_peer n) ≡ plain_peer (unwrap_or o (unknown_peer n))
    by None = refl
    by (Some p) = refl

pub known_plain : (ps : List Peer) (n : ℕ) → is_known (map plain_peer ps) n ≡ is_known ps n
known_plain ps n = ap is_some (find-map plain_peer (is_peer n) (λ p. refl) ps) ∙ some-map plain_peer (find (is_peer n) ps)

put_plain : (ps : List Peer) (p : Peer) → put_peer (map plain_peer ps) (plain_peer p) ≡ map plain_peer (put_peer ps p)
put_plain [] p = refl
put_plain (q ∷ ps) p = by (is_peer p.number q) (put_plain ps p)
  where
    by : (b : Bool) → put_peer (map plain_peer ps) (plain_peer p) ≡ map plain_peer (put_peer ps p)
        → cond b (plain_peer p ∷ map plain_peer ps) (plain_peer q ∷ put_peer (map plain_peer ps) (plain_peer p)) ≡ map plain_peer (cond b (p ∷ ps) (q ∷ put_peer ps p))
    by true rest = refl
    by false rest = ap (λ qs. plain_peer q ∷ qs) rest

-- a peer is set, before and after the change
pub set_plain : (f g : Peer → Peer) → ((p : Peer) → f (plain_peer p) ≡ plain_peer (g p)) → (ps : List Peer) (n : ℕ) → put_peer (map plain_peer ps) (f (peer_at (map plain_peer ps) n)) ≡ map plain_peer (put_peer ps (g (peer_at ps n)))
set_plain f g same ps n = ap (λ p. put_peer (map plain_peer ps) (f p)) (peer_plain ps n) ∙ ap (put_peer (map plain_peer ps)) (same (peer_at ps n)) ∙ put_plain ps (g (peer_at ps n))

pub asked_plain : (p : Peer) (m : Message) → asked (plain_peer p) (plain_message m) ≡ plain_peer (asked p m)
asked_plain p m = ap (λ ms. record (plain_peer (asked p m)) { outgoing = ms }) (sym (map-append plain_message p.outgoing (m ∷ [])))

pub told_plain : (p : Peer) (m : Message) → with_message (plain_peer p) (plain_message m) ≡ plain_peer (with_message p m)
told_plain p m = ap (λ ms. record (plain_peer (with_message p m)) { outgoing = ms }) (sym (map-append plain_message p.outgoing (m ∷ [])))

-- ---- the tests of a peer

pub may_be_known_plain : (ps : List Peer) (n : ℕ) → may_be_known (map plain_peer ps) n ≡ may_be_known ps n
may_be_known_plain ps n = λ i. unless (known_plain ps n i || nat_lt (length-map ps plain_peer i) 64) TooManyPeers

pub must_be_known_plain : (ps : List Peer) (n : ℕ) → must_be_known (map plain_peer ps) n ≡ must_be_known ps n
must_be_known_plain ps n = λ i. unless (known_plain ps n i) UnknownPeer

pub must_be_down_plain : (ps : List Peer) (n : ℕ) → must_be_down (map plain_peer ps) n ≡ must_be_down ps n
must_be_down_plain ps n = λ i. unless (not (peer_plain ps n i).up) PeerUp

pub must_be_up_plain : (ps : List Peer) (n : ℕ) → must_be_up (map plain_peer ps) n ≡ must_be_up ps n
must_be_up_plain ps n = λ i. unless (known_plain ps n i) UnknownPeer ⨟ unless (peer_plain ps n i).up PeerDown

pub must_take_updates_plain : (ps : List Peer) (n : ℕ) → must_take_updates (map plain_peer ps) n ≡ must_take_updates ps n
must_take_updates_plain ps n = λ i. (unless (known_plain ps n i) UnknownPeer ⨟ unless (peer_plain ps n i).up PeerDown ⨟ unless (not (peer_plain ps n i).syncing) Syncing) ⨟ unless ((peer_plain ps n i).capabilities).update NoUpdate

pub must_take_initiations_plain : (ps : List Peer) (n : ℕ) → must_take_initiations (map plain_peer ps) n ≡ must_take_initiations ps n
must_take_initiations_plain ps n = λ i. (unless (known_plain ps n i) UnknownPeer ⨟ unless (peer_plain ps n i).up PeerDown ⨟ unless (not (peer_plain ps n i).syncing) Syncing) ⨟ unless ((peer_plain ps n i).capabilities).create NoInitiate

pub next_plain : (s : State) (n : ℕ) → next_number (plain s) n ≡ next_number s n
next_plain s n = ap (λ (p : Peer). next_srp p.last_srp) (peer_plain s.peers n)

next_used_plain : (s : State) (n : ℕ) → is_srp_used (plain_lsps s.base) n (next_number (plain s) n) ≡ is_srp_used s.base n (next_number s n)
next_used_plain s n = ap (is_srp_used (plain_lsps s.base) n) (next_plain s n) ∙ used_plain s.base n (next_number s n)

pub must_have_a_number_plain : (s : State) (n : ℕ) → must_have_a_number (plain s) n ≡ must_have_a_number s n
must_have_a_number_plain s n = ap (λ used. unless (not used) SrpInUse) (next_used_plain s n)

-- ---- what is asked for

update_of_plain : (plsp : ℕ) (p : Purpose) → is_update_of plsp (plain_purpose p) ≡ is_update_of plsp p
update_of_plain plsp (purposes.Update n) = refl
update_of_plain plsp (purposes.Initiate name c) = refl
update_of_plain plsp (purposes.Answer request named c) = refl

initiation_of_plain : (name : List ℕ) (p : Purpose) → is_initiation_of name (plain_purpose p) ≡ is_initiation_of name p
initiation_of_plain name (purposes.Update n) = refl
initiation_of_plain name (purposes.Initiate known c) = refl
initiation_of_plain name (purposes.Answer request named c) = refl

pub update_asked_plain : (ts : List Ticket) (n plsp : ℕ) → is_update_asked (map plain_ticket ts) n plsp ≡ is_update_asked ts n plsp
update_asked_plain ts n plsp = any-map plain_ticket (is_update_for n plsp) (λ t. ap (λ is. t.peer == n && is) (update_of_plain plsp t.purpose)) ts

name_asked_plain : (ts : List Ticket) (n : ℕ) (name : List ℕ) → is_name_asked (map plain_ticket ts) n name ≡ is_name_asked ts n name
name_asked_plain ts n name = any-map plain_ticket (is_initiation_for n name) (λ t. ap (λ is. t.peer == n && is) (initiation_of_plain name t.purpose)) ts

pub may_be_asked_plain : (s : State) (n : ℕ) (p : Purpose) → may_be_asked (plain s) n (plain_purpose p) ≡ may_be_asked s n p
may_be_asked_plain s n (purposes.Update plsp) = λ i. must_take_updates_plain s.peers n i ⨟ held_plain s.base n plsp i ⨟ unless (not (update_asked_plain s.tickets n plsp i)) Pending
may_be_asked_plain s n (purposes.Initiate name c) =
    let named = any-map plain_record (is_named n name) (λ r. refl) s.base.records in
    λ i. must_take_initiations_plain s.peers n i ⨟ unless (not (named i || (name_asked_plain s.tickets n name i || list_any (is_awaited_as n name) s.names))) NameInUse
may_be_asked_plain s n (purposes.Answer request plsp c) = must_be_up_plain s.peers n

pub constraints_plain : (rs : List Record) (n : ℕ) (p : Purpose) → constraints_for (map plain_record rs) n (plain_purpose p) ≡ option_map plain_constraints (constraints_for rs n p)
constraints_plain rs n (purposes.Update plsp) = ap (option_map (λ (lsp : Lsp). lsp.constraints)) (lsp_plain rs n plsp) ∙ by (lsp_at rs n plsp)
  where
    by : (o : Option Lsp) → option_map (λ (lsp : Lsp). lsp.constraints) (option_map plain_lsp o) ≡ option_map plain_constraints (option_map (λ (lsp : Lsp). lsp.constraints) o)
    by None = refl
    by (Some lsp) = refl
constraints_plain rs n (purposes.Initiate name c) = refl
constraints_plain rs n (purposes.Answer request plsp c) = refl

pub one_more_plain : (ts : List Ticket) → may_have_one_more (map plain_ticket ts) ≡ may_have_one_more ts
one_more_plain ts = λ i. unless (nat_lt (length-map ts plain_ticket i) 1024) TooManyTickets

-- ---- tunnels

tunnel_plain : (rs : List Record) (n plsp : ℕ) → tunnel_known (map plain_record rs) n plsp ≡ tunnel_known rs n plsp
tunnel_plain rs n plsp = ap (option_map (λ (lsp : Lsp). lsp.tunnel)) (lsp_plain rs n plsp) ∙ by (lsp_at rs n plsp)
  where
    by : (o : Option Lsp) → option_map (λ (lsp : Lsp). lsp.tunnel) (option_map plain_lsp o) ≡ option_map (λ (lsp : Lsp). lsp.tunnel) o
    by None = refl
    by (Some lsp) = refl

named_plain : (rs : List Record) (n : ℕ) (plsp : Option ℕ) → tunnel_named (map plain_record rs) n plsp ≡ tunnel_named rs n plsp
named_plain rs n None = refl
named_plain rs n (Some plsp) = tunnel_plain rs n plsp

pub own_tunnel_plain : (rs : List Record) (n : ℕ) (p : Purpose) → own_tunnel (map plain_record rs) n (plain_purpose p) ≡ own_tunnel rs n p
own_tunnel_plain rs n (purposes.Update plsp) = tunnel_plain rs n plsp
own_tunnel_plain rs n (purposes.Initiate name c) = refl
own_tunnel_plain rs n (purposes.Answer request plsp c) = named_plain rs n plsp

granted_tunnel_plain : (rs : List Record) (n srp : ℕ) (p : Purpose) → granted_tunnel (map plain_record rs) n srp (plain_purpose p) ≡ granted_tunnel rs n srp p
granted_tunnel_plain rs n srp (purposes.Update plsp) = ap (λ (o : Option Tunnel). unwrap_or o (Unsignalled n plsp)) (tunnel_plain rs n plsp)
granted_tunnel_plain rs n srp (purposes.Initiate name c) = refl
granted_tunnel_plain rs n srp (purposes.Answer request plsp c) = ap (λ (o : Option Tunnel). unwrap_or o (Unsignalled n 0)) (named_plain rs n plsp)

-- ---- an offer

granted_plsp_plain : (p : Purpose) → granted_plsp (plain_purpose p) ≡ granted_plsp p
granted_plsp_plain (purposes.Update plsp) = refl
granted_plsp_plain (purposes.Initiate name c) = refl
granted_plsp_plain (purposes.Answer request plsp c) = refl

offered_plain : (rs : List Record) (srp : ℕ) (t : Ticket) (links : List ℕ) → offered_path (map plain_record rs) srp (plain_ticket t) links ≡ offered_path rs srp t links
unfolding offered_path
offered_plain rs srp t links = λ i. record (offered_path rs srp t links) { plsp = granted_plsp_plain t.purpose i; tunnel = granted_tunnel_plain rs t.peer srp t.purpose i }

pub path_plain : (s : State) (t : Ticket) (links : List ℕ) → path_of (plain s) (plain_ticket t) links ≡ path_of s t links
path_plain s t links = ap (λ srp. offered_path (map plain_record s.base.records) srp (plain_ticket t) links) (next_plain s t.peer) ∙ offered_plain s.base.records (next_number s t.peer) t links

pub message_plain : (links : List Link) (srp : ℕ) (c : Constraints) (numbers : List ℕ) (p : Purpose) → message_of links srp (plain_constraints c) numbers (plain_purpose p) ≡ plain_message (message_of links srp c numbers p)
unfolding update_message initiate_message answer_message
message_plain links srp c numbers (purposes.Update plsp) = refl
message_plain links srp c numbers (purposes.Initiate name own) = refl
message_plain links srp c numbers (purposes.Answer request plsp own) = refl

pub name_plain : (n srp : ℕ) (p : Purpose) → name_of_grant n srp (plain_purpose p) ≡ name_of_grant n srp p
name_plain n srp (purposes.Update plsp) = refl
name_plain n srp (purposes.Initiate name c) = refl
name_plain n srp (purposes.Answer request plsp c) = refl

-- ---- the verdict on an offer

request_plain : (p : Purpose) → is_request (plain_purpose p) ≡ is_request p
request_plain (purposes.Update plsp) = refl
request_plain (purposes.Initiate name c) = refl
request_plain (purposes.Answer request plsp c) = refl

moot_if_plain : (granted : Bool) (lsp : Option Lsp) → (not (is_delegated (option_map plain_lsp lsp)) || (granted || is_removing (option_map plain_lsp lsp))) ≡ (not (is_delegated lsp) || (granted || is_removing lsp))
moot_if_plain granted None = refl
moot_if_plain granted (Some lsp) = refl

moot_plain : (b : Lsps) (n : ℕ) (p : Purpose) → is_moot (plain_lsps b) n (plain_purpose p) ≡ is_moot b n p
moot_plain b n (purposes.Update plsp) = ap (λ lsp. not (is_delegated lsp) || (has_grant b.paths n plsp || is_removing lsp)) (lsp_plain b.records n plsp) ∙ moot_if_plain (has_grant b.paths n plsp) (lsp_at b.records n plsp)
moot_plain b n (purposes.Initiate name c) = refl
moot_plain b n (purposes.Answer request plsp c) = refl

gone_plain : (b : Lsps) (t : Ticket) (v : PeerView) → is_gone (plain_lsps b) (plain_ticket t) v ≡ is_gone b t v
gone_plain b t v = λ i. not (v.up && v.session == t.session) || (not (request_plain t.purpose i) && v.syncing || moot_plain b t.peer t.purpose i)

judge_plain : (t : Ticket) (offer : Option Path) (b : Lsps) (te : Ted) (v : PeerView) → judge (plain_ticket t) offer (plain_lsps b) te v ≡ judge t offer b te v
unfolding is_route
judge_plain t None b te v = refl
judge_plain t (Some g) b te v = λ i. if is_acceptable te b.paths t.constraints g then (if request_plain t.purpose i then verdicts.Answer else (if cannot_be_granted b v then verdicts.GivenUp else verdicts.Grant)) else unless_tried t verdicts.GivenUp

verdict_plain : (t : Ticket) (offer : Option Path) (b : Lsps) (te : Ted) (v : PeerView) → verdict (plain_ticket t) offer (plain_lsps b) te v ≡ verdict t offer b te v
unfolding verdict
verdict_plain t offer b te v = λ i. if gone_plain b t v i then verdicts.Gone else judge_plain t offer b te v i

abbrev seen_as : ℕ → Peer → Bool → PeerView
seen_as changes p used = record { session = p.session; up = p.up; syncing = p.syncing; changes = changes; srp_in_use = used }

view_plain : (s : State) (n : ℕ) → view_of (plain s) n ≡ view_of s n
view_plain s n = λ i. seen_as s.changes (peer_plain s.peers n i) (next_used_plain s n i)

pub verdict_on_plain : (s : State) (t : Ticket) (offer : Option (List ℕ)) → verdict_on (plain s) (plain_ticket t) offer ≡ verdict_on s t offer
verdict_on_plain s t None = ap (verdict (plain_ticket t) None (plain_lsps s.base) s.te) (view_plain s t.peer) ∙ verdict_plain t None s.base s.te (view_of s t.peer)
verdict_on_plain s t (Some links) = (λ i. verdict (plain_ticket t) (Some (path_plain s t links i)) (plain_lsps s.base) s.te (view_plain s t.peer i)) ∙ verdict_plain t (Some (path_of s t links)) s.base s.te (view_of s t.peer)
