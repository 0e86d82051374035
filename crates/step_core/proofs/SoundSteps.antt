-- Each grant is sound.
use Rattle.std.proofs.Common.{◌≡◌, ◌∙◌, ◌==◌, ℕ, ◌++◌, Bool, true, false, List, [], ◌∷◌, refl, sym, subst, ap}
use Rattle.std.specs.Prelude.{Option, Some, None, Result, Ok, Err, OnOk, IfOk, unwrap_or, pos, nat_lt, ◌≤ℤ◌, if◌then◌else◌}
use Rattle.std.specs.declared.alloc.AllocError.{AllocError}
use Rattle.pcep_messages.specs.declared.message.StateReport.{StateReport}
use Rattle.lsp_base.specs.Lsps.{Lsps, changed}
use Rattle.lsp_base.specs.Refusals.{unless, ◌⨟◌}
use Rattle.lsp_base.specs.Shares.{unreserved}
use Rattle.lsp_base.specs.declared.effect.Effect.{Effect}
use Rattle.lsp_base.specs.declared.lsp.Constraints.{Constraints}
use Rattle.lsp_base.specs.declared.path.Path.{Path}
use Rattle.lsp_base.specs.declared.why.Why.{Why}
use Rattle.lsp_base.specs.declared.why.Why.TheVariants.{NotTaken}
use Rattle.te_base.specs.Ted.{Ted}
use Rattle.commit_core.proofs.Soundness.{no_grant_goes_below}
use Rattle.commit_core.specs.Verdicts.{is_gone, verdict}
use Rattle.commit_core.specs.declared.verdict.PeerView.{PeerView}
use Rattle.commit_core.specs.declared.ticket.Purpose.{Purpose}
use Rattle.commit_core.specs.declared.ticket.Ticket.{Ticket}
use Rattle.commit_core.specs.declared.verdict.Verdict.{Verdict}
use Rattle.commit_core.specs.declared.verdict.Verdict.TheVariants as verdicts
use Rattle.delegate_rules.specs.Effects.{report_result}
use Rattle.delegate_rules.specs.Returns.{must_be_held}
use Rattle.initiate_rules.specs.Checks.{may_be_deleted}
use Rattle.step_core.specs.Asks.{asked_with, may_be_asked, must_have_ends, may_have_one_more, with_ticket, new_ticket, constraints_for}
use Rattle.step_core.specs.Grants.{committed, granted, judged, path_of, taken, verdict_on, view_of}
use Rattle.step_core.specs.Outcomes.{Outcome, decided, done, must_be_up, must_be_down, must_be_known, must_take_updates, must_take_initiations, must_have_a_number}
use Rattle.link_reload.specs.Reloads.{must_have_links}
use Rattle.step_core.specs.Reloads.{after_reload}
use Rattle.step_core.specs.Sound.{IsCovered, IsSoundGrant}
use Rattle.step_core.specs.States.{State}
use Rattle.step_core.specs.Steps.{booked, step, may_be_known, after_up, after_marker, after_down, after_expire, drained, after_refused, after_return, deleted}
use Rattle.ticket_table.specs.Tickets.{first_waiting, is_ticket, ticket_at}
use Rattle.step_core.specs.declared.event.Event.{Event}
use Rattle.step_core.specs.declared.event.Event.TheVariants.{Up, Report, Marker, Down, Expire, Drain, Refused as PeerRefused, Return, Delete, Ask, Take, Commit, Reload}
use Rattle.step_core.specs.declared.event.Reply.{Reply}
use Rattle.step_core.specs.declared.event.Reply.TheVariants.{Granted}
use Rattle.step_core.proofs.OtherTickets.{found_passes}
use Rattle.std.proofs.lemmas.Bool.Decides.{nat_tests}
use Rattle.std.proofs.Common.{arith}

same_number : (a b : ℕ) → (a == b) ≡ true → a ≡ b
same_number a b is = grind (arith, nat_tests)

-- ---- an offer

not_tried : (low : Bool) → (if low then verdicts.Again else verdicts.NoPath) ≡ verdicts.Grant → ⊥
not_tried true h = cc
not_tried false h = cc

nothing_granted : (gone same low : Bool) → (if gone then verdicts.Gone else (if same then verdicts.NoPath else (if low then verdicts.Again else verdicts.NoPath))) ≡ verdicts.Grant → ⊥
nothing_granted true same low h = cc
nothing_granted false true low h = cc
nothing_granted false false low h = not_tried low h

-- without an offer nothing is granted
no_offer : (t : Ticket) (lsps : Lsps) (te : Ted) (v : PeerView) → verdict t None lsps te v ≡ verdicts.Grant → ⊥
unfolding verdict
no_offer t lsps te v h = nothing_granted (is_gone lsps t v) (v.changes == t.seen) (nat_lt t.tries 4) h

-- the path is added to the existing ones
path_added : (s : State) (t : Ticket) (links : List ℕ) → (granted s t links).base.paths ≡ s.base.paths ++ path_of s t links ∷ []
unfolding changed
path_added s t links = refl

grant_covered : (s : State) (t : Ticket) (links : List ℕ) → verdict_on s t (Some links) ≡ verdicts.Grant → IsCovered s (granted s t links) (path_of s t links) t.constraints.priorities.setup
grant_covered s t links is l p has up rise =
    let room : pos 0 ≤ℤ unreserved s.te.links (s.base.paths ++ path_of s t links ∷ []) l p = no_grant_goes_below t (path_of s t links) s.base s.te (view_of s t.peer) is l p has up rise in
    subst (λ (paths : List Path). pos 0 ≤ℤ unreserved s.te.links paths l p) (sym (path_added s t links)) room

sound_offer : (s : State) (id : ℕ) (t : Ticket) (offer : Option (List ℕ)) → ticket_at s.tickets id ≡ Some t → verdict_on s t offer ≡ verdicts.Grant → IsSoundGrant s (Commit id offer) (granted s t (unwrap_or offer []))
sound_offer s id t None found is = absurd (no_offer t s.base s.te (view_of s t.peer) is)
sound_offer s id t (Some links) found is =
    let number : t.id ≡ id = same_number t.id id (found_passes (is_ticket id) s.tickets t found) in
    record {
      ticket = t;
      links = links;
      event_is = ap (λ (k : ℕ). Commit k (Some links)) (sym number);
      stands = ap (λ (k : ℕ). ticket_at s.tickets k) number ∙ found;
      added = path_added s t links;
      covered = grant_covered s t links is;
    }

sound_verdict : (s : State) (id : ℕ) (t : Ticket) (offer : Option (List ℕ)) (v : Verdict) (srp : ℕ) → ticket_at s.tickets id ≡ Some t → verdict_on s t offer ≡ v → (judged s t (unwrap_or offer []) v).reply ≡ Granted srp
    → IsSoundGrant s (Commit id offer) (judged s t (unwrap_or offer []) v).state
sound_verdict s id t offer verdicts.Grant srp found is reply = sound_offer s id t offer found is
sound_verdict s id t offer verdicts.Answer srp found is reply = absurd (cc (reply))
sound_verdict s id t offer verdicts.Again srp found is reply = absurd (cc (reply))
sound_verdict s id t offer verdicts.NoPath srp found is reply = absurd (cc (reply))
sound_verdict s id t offer verdicts.GivenUp srp found is reply = absurd (cc (reply))
sound_verdict s id t offer verdicts.Gone srp found is reply = absurd (cc (reply))

-- ---- any event

-- a refusal is no grant
sound_by : (s : State) (event : Event) (whys : Option Why) (o : Outcome) (srp : ℕ) → (o.reply ≡ Granted srp → IsSoundGrant s event o.state) → (decided s whys o).reply ≡ Granted srp → IsSoundGrant s event (decided s whys o).state
sound_by s event (Some why) o srp rest is = absurd (cc (is))
sound_by s event None o srp rest is = rest is

sound_commit : (s : State) (id : ℕ) (offer : Option (List ℕ)) (o : Option Ticket) (srp : ℕ) → ticket_at s.tickets id ≡ o → (committed s offer o).reply ≡ Granted srp → IsSoundGrant s (Commit id offer) (committed s offer o).state
sound_commit s id offer None srp found is = absurd (cc (is))
sound_commit s id offer (Some t) srp found is = sound_by s (Commit id offer) (unless t.taken NotTaken) (judged s t (unwrap_or offer []) (verdict_on s t offer)) srp (sound_verdict s id t offer (verdict_on s t offer) srp found refl) is

sound_report : (s : State) (n : ℕ) (r : StateReport) (result : Result Effect Why) (srp : ℕ) → (booked s n r.plsp result).reply ≡ Granted srp → IsSoundGrant s (Report n r) (booked s n r.plsp result).state
sound_report s n r (Err why) srp is = absurd (cc (is))
sound_report s n r (Ok e) srp is = absurd (cc (is))

sound_ask : (s : State) (n : ℕ) (purpose : Purpose) (c : Option Constraints) (srp : ℕ) → (asked_with s n purpose c).reply ≡ Granted srp → IsSoundGrant s (Ask n purpose) (asked_with s n purpose c).state
sound_ask s n purpose None srp is = absurd (cc (is))
sound_ask s n purpose (Some c) srp is = sound_by s (Ask n purpose) (must_have_ends s.te c ⨟ may_have_one_more s.tickets) (with_ticket s (new_ticket s n purpose c)) srp (λ no. absurd (cc (no))) is

sound_take : (s : State) (o : Option Ticket) (srp : ℕ) → (taken s o).reply ≡ Granted srp → IsSoundGrant s Take (taken s o).state
sound_take s None srp is = absurd (cc (is))
sound_take s (Some t) srp is = absurd (cc (is))

pub granted_is_sound : (s : State) (event : Event) (srp : ℕ) → (step s event).reply ≡ Granted srp → IsSoundGrant s event (step s event).state
unfolding step
granted_is_sound s (Up n sent) srp is = sound_by s (Up n sent) (must_be_down s.peers n ⨟ may_be_known s.peers n) (done (after_up s n sent)) srp (λ no. absurd (cc (no))) is
granted_is_sound s (Report n r) srp is = sound_by s (Report n r) (must_be_up s.peers n) (booked s n r.plsp (report_result s.base s.te n r)) srp (sound_report s n r (report_result s.base s.te n r) srp) is
granted_is_sound s (Marker n) srp is = sound_by s (Marker n) (must_be_up s.peers n) (done (after_marker s n)) srp (λ no. absurd (cc (no))) is
granted_is_sound s (Down n) srp is = sound_by s (Down n) (must_be_up s.peers n) (done (after_down s n)) srp (λ no. absurd (cc (no))) is
granted_is_sound s (Expire n) srp is = sound_by s (Expire n) (must_be_known s.peers n ⨟ must_be_down s.peers n) (done (after_expire s n)) srp (λ no. absurd (cc (no))) is
granted_is_sound s (Drain n) srp is = sound_by s (Drain n) (must_be_up s.peers n) (drained s n) srp (λ no. absurd (cc (no))) is
granted_is_sound s (PeerRefused n number) srp is = sound_by s (PeerRefused n number) (must_be_up s.peers n) (done (after_refused s n number)) srp (λ no. absurd (cc (no))) is
granted_is_sound s (Return n plsp) srp is = sound_by s (Return n plsp) (must_take_updates s.peers n ⨟ must_be_held s.base n plsp ⨟ must_have_a_number s n) (done (after_return s n plsp)) srp (λ no. absurd (cc (no))) is
granted_is_sound s (Delete n plsp) srp is = sound_by s (Delete n plsp) (must_take_initiations s.peers n ⨟ may_be_deleted s.base n plsp ⨟ must_have_a_number s n) (deleted s n plsp) srp (λ no. absurd (cc (no))) is
granted_is_sound s (Ask n purpose) srp is = sound_by s (Ask n purpose) (may_be_asked s n purpose) (asked_with s n purpose (constraints_for s.base.records n purpose)) srp (sound_ask s n purpose (constraints_for s.base.records n purpose) srp) is
granted_is_sound s Take srp is = sound_take s (first_waiting s.tickets) srp is
granted_is_sound s (Commit id offer) srp is = sound_commit s id offer (ticket_at s.tickets id) srp refl is
granted_is_sound s (Reload entries) srp is = sound_by s (Reload entries) (must_have_links s.te entries) (done (after_reload s entries)) srp (λ no. absurd (cc (no))) is

-- ---- the same for a call that takes the step, or leaves the state if memory runs out

pub sound_by_step : (s t : State) (event : Event) (result : Result Reply AllocError) (srp : ℕ) → OnOk result (t ≡ (step s event).state) → IfOk result (λ reply. reply ≡ (step s event).reply) → result ≡ Ok (Granted srp) → IsSoundGrant s event t
sound_by_step s t event (Ok reply) srp ok replied is =
    let same : reply ≡ Granted srp = cc in
    subst (IsSoundGrant s event) (sym ok) (granted_is_sound s event srp (sym replied ∙ same))
sound_by_step s t event (Err e) srp ok replied is = absurd (cc (is))
