-- A session is served until it gives nothing more.
use Rattle.std.proofs.Common.{◌≡◌, inl, inr, ℕ, zero, suc, ◌≤◌, Bool, true, false, List, [], ◌∷◌, ◌++◌, append_assoc, Option, Some, None, if◌then◌else◌, refl, sym, ◌∙◌, ap, subst, arith}
use Rattle.std.proofs.Math.Nat.{le_trans}
use Rattle.pcep_messages.specs.declared.message.Message.{Message}
use Rattle.pcep_messages.specs.declared.message.Message.TheVariants as messages
use Rattle.pcep_messages.specs.declared.message.PathRequest.{PathRequest}
use Rattle.pcep_messages.specs.declared.message.StateReport.{StateReport}
use Rattle.pcep_objects.specs.declared.request_objects.NoPathVector.{NoPathVector}
use Rattle.pcep_objects.specs.declared.session_objects.Open.{Open}
use Rattle.commit_core.specs.declared.ticket.Purpose.TheVariants as purposes
use Rattle.pcep_messages.specs.declared.notice.PcError.{PcError}
use Rattle.pcep_session.specs.Ends.{most_turns, turns_left, brings_more}
use Rattle.pcep_session.specs.Runs.{after_call}
use Rattle.pcep_session.specs.Runs as runs
use Rattle.pcep_session.specs.Turns.{next}
use Rattle.pcep_session.specs.declared.contents.Contents.{Contents}
use Rattle.pcep_session.specs.declared.table.Input.{Input}
use Rattle.pcep_session.specs.declared.table.Input.TheVariants as input
use Rattle.pcep_session.proofs.Endings.{run_out, rests_on, fewer, none_left}
use Rattle.lsp_base.specs.declared.why.Why.{Why}
use Rattle.lsp_base.specs.declared.why.Why.TheVariants.{PeerUp, TooManyPeers}
use Rattle.lsp_words.specs.declared.object.Capabilities.{Capabilities}
use Rattle.step_core.specs.declared.event.Event.{Event}
use Rattle.step_core.specs.declared.event.Event.TheVariants as event
use Rattle.step_core.specs.declared.event.Reply.{Reply}
use Rattle.step_core.specs.declared.event.Reply.TheVariants as replies
use Rattle.engine_core.specs.Deeds.{Deed, Sight, Called, Shown, Opened, Delivered}
use Rattle.engine_core.specs.Engine.{client_with, ending, second_session, after_refused_up, after_up, event_of, saying, cannot_process, on_wanted, after_report, showing_open, joining, on_up, on_report, on_reports, answered_why, refused_request, after_request, on_request, on_requests, on_refusal, on_refusals, taking, on_message, on_input, turned, turns}
use Rattle.engine_core.specs.Requests.{purpose_of, vector_for, no_path_for}
use Rattle.engine_core.specs.Laws.{AllHandled}
use Rattle.engine_core.specs.Plans.{Plan, Returns, Reaches, Shows, Submits, submitting, LeadsTo}
use Rattle.engine_core.specs.declared.client.Client.{Client}
use Rattle.engine_core.proofs.Leading.{here, leads_on, passed}

-- ---- what is done for an input adds no turns

adds_none : (call : runs.Call) (c : Contents) → brings_more call ≡ false → turns_left (after_call call c) ≤ turns_left c
adds_none call c e = omega (arith, (run_out c).1 call e)

same : (n : ℕ) → n ≤ n
same n = omega arith

ending_adds_none : (error : Option PcError) (reason : Option ℕ) (c : Client) → turns_left (ending error reason c).session ≤ turns_left c.session
ending_adds_none error reason c = adds_none (runs.End error reason) c.session refl

refusal_adds_none : (why : Why) (c : Client) → turns_left (after_refused_up why c).session ≤ turns_left c.session
refusal_adds_none PeerUp c = ending_adds_none (Some second_session) None c
refusal_adds_none TooManyPeers c = ending_adds_none None (Some 1) c
refusal_adds_none why c = same (turns_left c.session)

up_adds_none : (reply : Reply) (c : Client) → turns_left (after_up reply c).session ≤ turns_left c.session
unfolding after_up
up_adds_none replies.Done c = same (turns_left c.session)
up_adds_none (replies.Refused why) c = refusal_adds_none why c
up_adds_none reply c = same (turns_left c.session)

-- ---- an input, and on

-- a plan, given what goes on after it
abbrev Going : Type 0
Going = (Client → Plan Client) → Plan Client

-- The deeds of a plan that was carried out: the first lead to a client, whatever goes on from there; the others are the
-- deeds of what goes on.
record Leaves (plan : Going) (go_on : Client → Plan Client) (c : Client) (deeds : List Deed) (after : Client) : Type 0 where
  mid : Client
  first : List Deed
  others : List Deed
  whole : deeds ≡ first ++ others
  leads : (k : Client → Plan Client) → LeadsTo (plan k) first (k mid)
  no_more_turns : turns_left mid.session ≤ turns_left c.session
  on : LeadsTo (go_on mid) others (Returns after)

at_once : (go_on : Client → Plan Client) (c : Client) (deeds : List Deed) (after : Client) → LeadsTo (go_on c) deeds (Returns after) → Leaves (λ k. k c) go_on c deeds after
at_once go_on c deeds after h = record { mid = c; first = []; others = deeds; whole = refl; leads = λ k. here (k c); no_more_turns = same (turns_left c.session); on = h }

from_next : (plan : Going) (go_on : Client → Plan Client) (c d : Client) (deeds : List Deed) (after : Client) → turns_left d.session ≤ turns_left c.session → Leaves plan go_on d deeds after → Leaves plan go_on c deeds after
from_next plan go_on c d deeds after h l =
    record { mid = l.mid; first = l.first; others = l.others; whole = l.whole; leads = l.leads; no_more_turns = le_trans l.no_more_turns h; on = l.on }

both : (deeds first rest second others : List Deed) → deeds ≡ first ++ rest → rest ≡ second ++ others → deeds ≡ (first ++ second) ++ others
both deeds first rest second others h k = h ∙ ap (λ (xs : List Deed). first ++ xs) k ∙ sym (append_assoc first second others)

and_then : (plan : Going) (later : Client → Going) (go_on : Client → Plan Client) (c : Client) (deeds : List Deed) (after : Client) → Leaves plan (λ a. later a go_on) c deeds after
    → ((mid : Client) (rest : List Deed) → LeadsTo (later mid go_on) rest (Returns after) → Leaves (later mid) go_on mid rest after) → Leaves (λ k. plan (λ a. later a k)) go_on c deeds after
and_then plan later go_on c deeds after h f =
    let l : Leaves (later h.mid) go_on h.mid h.others after = f h.mid h.others h.on in
    record {
      mid = l.mid;
      first = h.first ++ l.first;
      others = l.others;
      whole = both deeds h.first h.others l.first l.others h.whole l.whole;
      leads = λ k. leads_on (plan (λ a. later a k)) (later h.mid k) (k l.mid) h.first l.first (h.leads (λ a. later a k)) (l.leads k);
      no_more_turns = le_trans l.no_more_turns h.no_more_turns;
      on = l.on;
    }

abbrev IsReaches : Plan Client → Type 0
IsReaches (Reaches c plan) = Unit {0}
IsReaches plan = ⊥

abbrev IsShows : Plan Client → Type 0
IsShows (Shows sight plan) = Unit {0}
IsShows plan = ⊥

abbrev IsSubmits : Plan Client → Type 0
IsSubmits (Submits event go_on) = Unit {0}
IsSubmits plan = ⊥

-- a state that is passed doesn't matter to deeds that lead to the end
to_end : (d : Client) (plan : Plan Client) (deeds : List Deed) (after : Client) → LeadsTo (Reaches d plan) deeds (Returns after) → LeadsTo plan deeds (Returns after)
to_end d plan [] after h = elim h [ inl e ↦ absurd (subst IsReaches e tt) | inr i ↦ i ]
to_end d plan (deed ∷ deeds) after h = h

past : (d : Client) (plan : Going) (go_on : Client → Plan Client) (c : Client) (deeds : List Deed) (after : Client) → Leaves plan go_on c deeds after → Leaves (λ k. Reaches d (plan k)) go_on c deeds after
past d plan go_on c deeds after l =
    record { mid = l.mid; first = l.first; others = l.others; whole = l.whole; leads = λ k. passed d (plan k) (k l.mid) l.first (l.leads k); no_more_turns = l.no_more_turns; on = l.on }

shown_leaves : (sight : Sight) (plan : Going) (go_on : Client → Plan Client) (c : Client) (deeds : List Deed) (after : Client)
    → ((rest : List Deed) → LeadsTo (plan go_on) rest (Returns after) → Leaves plan go_on c rest after)
    → LeadsTo (Shows sight (plan go_on)) deeds (Returns after) → Leaves (λ k. Shows sight (plan k)) go_on c deeds after
shown_leaves sight plan go_on c [] after f h = absurd (subst IsShows h tt)
shown_leaves sight plan go_on c (Called call ∷ deeds) after f h = absurd h
shown_leaves sight plan go_on c (Shown seen ∷ deeds) after f h =
    let l : Leaves plan go_on c deeds after = f deeds h.1 in
    record {
      mid = l.mid;
      first = Shown seen ∷ l.first;
      others = l.others;
      whole = ap (λ (xs : List Deed). Shown seen ∷ xs) l.whole;
      leads = λ k. (h.0, l.leads k);
      no_more_turns = l.no_more_turns;
      on = l.on;
    }

called_leaves : (event : Event) (plan : Reply → Going) (go_on : Client → Plan Client) (c : Client) (deeds : List Deed) (after : Client)
    → ((reply : Reply) (rest : List Deed) → LeadsTo (plan reply go_on) rest (Returns after) → Leaves (plan reply) go_on c rest after)
    → LeadsTo (Submits event (λ reply. plan reply go_on)) deeds (Returns after) → Leaves (λ k. Submits event (λ reply. plan reply k)) go_on c deeds after
called_leaves event plan go_on c [] after f h = absurd (subst IsSubmits h tt)
called_leaves event plan go_on c (Shown seen ∷ deeds) after f h = absurd h
called_leaves event plan go_on c (Called call ∷ deeds) after f h =
    let l : Leaves (plan call.reply) go_on c deeds after = f call.reply deeds h.1 in
    record {
      mid = l.mid;
      first = Called call ∷ l.first;
      others = l.others;
      whole = ap (λ (xs : List Deed). Called call ∷ xs) l.whole;
      leads = λ k. (h.0, l.leads k);
      no_more_turns = l.no_more_turns;
      on = l.on;
    }

submitting_leaves : (d : Client) (event : Event) (plan : Reply → Going) (go_on : Client → Plan Client) (c : Client) (deeds : List Deed) (after : Client)
    → ((reply : Reply) (rest : List Deed) → LeadsTo (plan reply go_on) rest (Returns after) → Leaves (plan reply) go_on c rest after)
    → LeadsTo (submitting d event (λ reply. plan reply go_on)) deeds (Returns after) → Leaves (λ k. submitting d event (λ reply. plan reply k)) go_on c deeds after
submitting_leaves d event plan go_on c deeds after f h =
    past d (λ k. Submits event (λ reply. Reaches d (plan reply k))) go_on c deeds after
    (called_leaves event (λ reply k. Reaches d (plan reply k)) go_on c deeds after
    (λ reply rest m. past d (plan reply) go_on c rest after (f reply rest (to_end d (plan reply go_on) rest after m)))
    (to_end d (Submits event (λ reply. Reaches d (plan reply go_on))) deeds after h))

joining_leaves : (peer : ℕ) (capabilities : Option Capabilities) (go_on : Client → Plan Client) (c : Client) (deeds : List Deed) (after : Client)
    → LeadsTo (joining peer capabilities c go_on) deeds (Returns after) → Leaves (λ k. joining peer capabilities c k) go_on c deeds after
joining_leaves peer capabilities go_on c deeds after h =
    submitting_leaves c (event.Up peer capabilities) (λ reply k. k (after_up reply c)) go_on c deeds after
    (λ reply rest m. from_next (λ k. k (after_up reply c)) go_on c (after_up reply c) rest after (up_adds_none reply c) (at_once go_on (after_up reply c) rest after m)) h

open_leaves : (peer_open : Option Open) (plan : Going) (go_on : Client → Plan Client) (c : Client) (deeds : List Deed) (after : Client)
    → ((rest : List Deed) → LeadsTo (plan go_on) rest (Returns after) → Leaves plan go_on c rest after)
    → LeadsTo (showing_open peer_open (plan go_on)) deeds (Returns after) → Leaves (λ k. showing_open peer_open (plan k)) go_on c deeds after
open_leaves None plan go_on c deeds after f h = f deeds h
open_leaves (Some open_) plan go_on c deeds after f h = shown_leaves (Opened open_) plan go_on c deeds after f h

up_leaves : (peer : ℕ) (capabilities : Option Capabilities) (go_on : Client → Plan Client) (c : Client) (deeds : List Deed) (after : Client)
    → LeadsTo (on_up peer capabilities c go_on) deeds (Returns after) → Leaves (λ k. on_up peer capabilities c k) go_on c deeds after
up_leaves peer capabilities go_on c deeds after h =
    open_leaves c.session.peer (λ k. joining peer capabilities c k) go_on c deeds after (λ rest m. joining_leaves peer capabilities go_on c rest after m) h

wants_leave : (wants : Bool) (peer plsp : ℕ) (go_on : Client → Plan Client) (c : Client) (deeds : List Deed) (after : Client)
    → LeadsTo (if wants then on_wanted peer plsp c go_on else go_on c) deeds (Returns after) → Leaves (λ k. if wants then on_wanted peer plsp c k else k c) go_on c deeds after
wants_leave true peer plsp go_on c deeds after h =
    submitting_leaves c (event.Ask peer (purposes.Update plsp)) (λ reply k. k c) go_on c deeds after (λ reply rest m. at_once go_on c rest after m) h
wants_leave false peer plsp go_on c deeds after h = at_once go_on c deeds after h

reply_leaves : (peer plsp : ℕ) (srp : Option ℕ) (reply : Reply) (go_on : Client → Plan Client) (c : Client) (deeds : List Deed) (after : Client)
    → LeadsTo (after_report peer plsp srp reply c go_on) deeds (Returns after) → Leaves (λ k. after_report peer plsp srp reply c k) go_on c deeds after
unfolding after_report
reply_leaves peer plsp srp (replies.Booked wants) go_on c deeds after h = wants_leave wants peer plsp go_on c deeds after h
reply_leaves peer plsp srp (replies.Refused why) go_on c deeds after h =
    let d : Client = saying (cannot_process srp) c in
    past c (λ k. k d) go_on c deeds after
    (from_next (λ k. k d) go_on c d deeds after (adds_none (runs.Report_error (cannot_process srp)) c.session refl) (at_once go_on d deeds after (to_end c (go_on d) deeds after h)))
reply_leaves peer plsp srp reply go_on c deeds after h = at_once go_on c deeds after h

report_leaves : (peer : ℕ) (r : StateReport) (go_on : Client → Plan Client) (c : Client) (deeds : List Deed) (after : Client)
    → LeadsTo (on_report peer r c go_on) deeds (Returns after) → Leaves (λ k. on_report peer r c k) go_on c deeds after
report_leaves peer r go_on c deeds after h =
    submitting_leaves c (event_of peer r) (λ reply k. after_report peer r.plsp r.srp reply c k) go_on c deeds after (λ reply rest m. reply_leaves peer r.plsp r.srp reply go_on c rest after m) h

reports_leave : (peer : ℕ) (reports : List StateReport) (go_on : Client → Plan Client) (c : Client) (deeds : List Deed) (after : Client)
    → LeadsTo (on_reports peer reports c go_on) deeds (Returns after) → Leaves (λ k. on_reports peer reports c k) go_on c deeds after
reports_leave peer [] go_on c deeds after h = at_once go_on c deeds after h
reports_leave peer (r ∷ rs) go_on c deeds after h =
    and_then (λ k. on_report peer r c k) (λ a k. on_reports peer rs a k) go_on c deeds after (report_leaves peer r (λ a. on_reports peer rs a go_on) c deeds after h)
    (λ mid rest m. reports_leave peer rs go_on mid rest after m)

refusal_leaves : (peer srp : ℕ) (go_on : Client → Plan Client) (c : Client) (deeds : List Deed) (after : Client)
    → LeadsTo (on_refusal peer srp c go_on) deeds (Returns after) → Leaves (λ k. on_refusal peer srp c k) go_on c deeds after
refusal_leaves peer srp go_on c deeds after h =
    submitting_leaves c (event.Refused peer srp) (λ reply k. k c) go_on c deeds after (λ reply rest m. at_once go_on c rest after m) h

refusals_leave : (peer : ℕ) (srps : List ℕ) (go_on : Client → Plan Client) (c : Client) (deeds : List Deed) (after : Client)
    → LeadsTo (on_refusals peer srps c go_on) deeds (Returns after) → Leaves (λ k. on_refusals peer srps c k) go_on c deeds after
refusals_leave peer [] go_on c deeds after h = at_once go_on c deeds after h
refusals_leave peer (srp ∷ srps) go_on c deeds after h =
    and_then (λ k. on_refusal peer srp c k) (λ a k. on_refusals peer srps a k) go_on c deeds after (refusal_leaves peer srp (λ a. on_refusals peer srps a go_on) c deeds after h)
    (λ mid rest m. refusals_leave peer srps go_on mid rest after m)

answered_adds_none : (request : ℕ) (vector : Option NoPathVector) (c : Client) → turns_left (answered_why request vector c).session ≤ turns_left c.session
answered_adds_none request None c = same (turns_left c.session)
answered_adds_none request (Some vector) c = adds_none (runs.Send (no_path_for request vector)) c.session refl

answer_leaves : (request : ℕ) (reply : Reply) (go_on : Client → Plan Client) (c : Client) (deeds : List Deed) (after : Client)
    → LeadsTo (after_request request reply c go_on) deeds (Returns after) → Leaves (λ k. after_request request reply c k) go_on c deeds after
unfolding after_request
answer_leaves request (replies.Refused why) go_on c deeds after h =
    let d : Client = refused_request request why c in
    past c (λ k. k d) go_on c deeds after
    (from_next (λ k. k d) go_on c d deeds after (answered_adds_none request (vector_for why) c) (at_once go_on d deeds after (to_end c (go_on d) deeds after h)))
answer_leaves request reply go_on c deeds after h = at_once go_on c deeds after h

request_leaves : (peer : ℕ) (r : PathRequest) (go_on : Client → Plan Client) (c : Client) (deeds : List Deed) (after : Client)
    → LeadsTo (on_request peer r c go_on) deeds (Returns after) → Leaves (λ k. on_request peer r c k) go_on c deeds after
request_leaves peer r go_on c deeds after h =
    submitting_leaves c (event.Ask peer (purpose_of r)) (λ reply k. after_request r.request reply c k) go_on c deeds after (λ reply rest m. answer_leaves r.request reply go_on c rest after m) h

requests_leave : (peer : ℕ) (requests : List PathRequest) (go_on : Client → Plan Client) (c : Client) (deeds : List Deed) (after : Client)
    → LeadsTo (on_requests peer requests c go_on) deeds (Returns after) → Leaves (λ k. on_requests peer requests c k) go_on c deeds after
requests_leave peer [] go_on c deeds after h = at_once go_on c deeds after h
requests_leave peer (r ∷ rs) go_on c deeds after h =
    and_then (λ k. on_request peer r c k) (λ a k. on_requests peer rs a k) go_on c deeds after (request_leaves peer r (λ a. on_requests peer rs a go_on) c deeds after h)
    (λ mid rest m. requests_leave peer rs go_on mid rest after m)

taking_leaves : (peer : ℕ) (message : Message) (go_on : Client → Plan Client) (c : Client) (deeds : List Deed) (after : Client)
    → LeadsTo (taking peer message c go_on) deeds (Returns after) → Leaves (λ k. taking peer message c k) go_on c deeds after
taking_leaves peer (messages.Report reports) go_on c deeds after h = reports_leave peer reports go_on c deeds after h
taking_leaves peer (messages.Request requests) go_on c deeds after h = requests_leave peer requests go_on c deeds after h
taking_leaves peer (messages.Error errors) go_on c deeds after h = refusals_leave peer errors.srps go_on c deeds after h
taking_leaves peer message go_on c deeds after h = at_once go_on c deeds after h

message_leaves : (peer : ℕ) (message : Message) (go_on : Client → Plan Client) (c : Client) (deeds : List Deed) (after : Client)
    → LeadsTo (on_message peer message c go_on) deeds (Returns after) → Leaves (λ k. on_message peer message c k) go_on c deeds after
message_leaves peer message go_on c deeds after h =
    shown_leaves (Delivered message) (λ k. taking peer message c k) go_on c deeds after (λ rest m. taking_leaves peer message go_on c rest after m) h

abbrev down_plan : Bool → ℕ → Client → Going
down_plan is peer c k = if is then submitting c (event.Down peer) (λ reply. k (record c { joined = false })) else k c

down_leaves : (is : Bool) (peer : ℕ) (go_on : Client → Plan Client) (c : Client) (deeds : List Deed) (after : Client)
    → LeadsTo (down_plan is peer c go_on) deeds (Returns after) → Leaves (λ k. down_plan is peer c k) go_on c deeds after
down_leaves true peer go_on c deeds after h =
    let d : Client = record c { joined = false } in
    submitting_leaves c (event.Down peer) (λ reply k. k d) go_on c deeds after
    (λ reply rest m. from_next (λ k. k d) go_on c d rest after (same (turns_left c.session)) (at_once go_on d rest after m)) h
down_leaves false peer go_on c deeds after h = at_once go_on c deeds after h

input_leaves : (peer : ℕ) (given : Input) (go_on : Client → Plan Client) (c : Client) (deeds : List Deed) (after : Client)
    → LeadsTo (on_input peer given c go_on) deeds (Returns after) → Leaves (λ k. on_input peer given c k) go_on c deeds after
unfolding on_input
input_leaves peer (input.Up capabilities) go_on c deeds after h = up_leaves peer capabilities go_on c deeds after h
input_leaves peer (input.Message message) go_on c deeds after h = message_leaves peer message go_on c deeds after h
input_leaves peer input.Down go_on c deeds after h = down_leaves c.joined peer go_on c deeds after h
input_leaves peer input.Handled go_on c deeds after h = at_once go_on c deeds after h

-- ---- all turns

record Rests (plan : Going) (go_on : Client → Plan Client) (deeds : List Deed) (after : Client) : Type 0 where
  rested : Client
  first : List Deed
  others : List Deed
  whole : deeds ≡ first ++ others
  turned : (k : Client → Plan Client) → LeadsTo (plan k) first (k rested)
  no_more : (next rested.session).input ≡ None
  on : LeadsTo (go_on rested) others (Returns after)

at_rest : (go_on : Client → Plan Client) (c : Client) (deeds : List Deed) (after : Client) → (next c.session).input ≡ None → LeadsTo (go_on c) deeds (Returns after) → Rests (λ k. k c) go_on deeds after
at_rest go_on c deeds after e h = record { rested = c; first = []; others = deeds; whole = refl; turned = λ k. here (k c); no_more = e; on = h }

abbrev Handles : ℕ → Type 0
Handles most =
    (peer : ℕ) (c : Client) (deeds : List Deed) (after : Client) (go_on : Client → Plan Client)
    → turns_left c.session ≤ most → LeadsTo (turns most peer c go_on) deeds (Returns after) → Rests (λ k. turns most peer c k) go_on deeds after

rests_later : (plan : Going) (later : Client → Going) (go_on : Client → Plan Client) (c : Client) (deeds : List Deed) (after : Client) → (h : Leaves plan (λ a. later a go_on) c deeds after)
    → Rests (later h.mid) go_on h.others after → Rests (λ k. plan (λ a. later a k)) go_on deeds after
rests_later plan later go_on c deeds after h r = record {
  rested = r.rested;
  first = h.first ++ r.first;
  others = r.others;
  whole = both deeds h.first h.others r.first r.others h.whole r.whole;
  turned = λ k. leads_on (plan (λ a. later a k)) (later h.mid k) (k r.rested) h.first r.first (h.leads (λ a. later a k)) (r.turned k);
  no_more = r.no_more;
  on = r.on;
}

rests_past : (d : Client) (plan : Going) (go_on : Client → Plan Client) (deeds : List Deed) (after : Client) → Rests plan go_on deeds after → Rests (λ k. Reaches d (plan k)) go_on deeds after
rests_past d plan go_on deeds after r = record {
  rested = r.rested;
  first = r.first;
  others = r.others;
  whole = r.whole;
  turned = λ k. passed d (plan k) (k r.rested) r.first (r.turned k);
  no_more = r.no_more;
  on = r.on;
}

by_given : (most peer : ℕ) (c : Client) (deeds : List Deed) (after : Client) (go_on : Client → Plan Client) (x : Option Input) → Handles most → (next c.session).input ≡ x → turns_left c.session ≤ suc most
    → LeadsTo (turned peer x (client_with (next c.session).after c) (λ a. turns most peer a go_on) go_on) deeds (Returns after)
    → Rests (λ k. turned peer x (client_with (next c.session).after c) (λ a. turns most peer a k) k) go_on deeds after
by_given most peer c deeds after go_on None ih e few h = at_rest go_on (client_with (next c.session).after c) deeds after (rests_on 1 c.session e) h
by_given most peer c deeds after go_on (Some given) ih e few h =
    let d : Client = client_with (next c.session).after c in
    let l : Leaves (λ k. on_input peer given d k) (λ a. turns most peer a go_on) d deeds after = input_leaves peer given (λ a. turns most peer a go_on) d deeds after h in
    rests_later (λ k. on_input peer given d k) (λ a k. turns most peer a k) go_on d deeds after l
    (ih peer l.mid l.others after go_on (le_trans l.no_more_turns (fewer most c.session given e few)) l.on)

handles : (most : ℕ) → Handles most
handles zero peer c deeds after go_on few h = at_rest go_on c deeds after (none_left c.session few) h
handles (suc most) peer c deeds after go_on few h =
    let d : Client = client_with (next c.session).after c in
    rests_past c (λ k. turned peer (next c.session).input d (λ a. turns most peer a k) k) go_on deeds after
    (by_given most peer c deeds after go_on (next c.session).input (handles most) refl few
    (to_end c (turned peer (next c.session).input d (λ a. turns most peer a go_on) go_on) deeds after h))

pub all_handled : AllHandled
all_handled peer c after deeds go_on h =
    let r : Rests (λ k. turns (most_turns c.session) peer c k) go_on deeds after = handles (most_turns c.session) peer c deeds after go_on (run_out c.session).0 h in
    record { rested = r.rested; first = r.first; others = r.others; whole = r.whole; turned = r.turned (λ w. Returns w); no_more = r.no_more; on = r.on }
