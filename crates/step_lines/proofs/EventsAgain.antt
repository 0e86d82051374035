-- An event is read again from its words.
use Rattle.std.proofs.Common.{◌≡◌, ℕ, ◌^◌, ◌<◌, ◌&&◌, not, Bool, true, false, List, codes, Option, Some, None, is_none, is_some, Result, refl, ap, ◌∙◌, arith}
use Rattle.std.specs.Option.{unwrap_or}
use Rattle.std.proofs.lemmas.Bool.{and_parts}
use Rattle.std.proofs.lemmas.Bool.Decides.{nat_tests}
use Rattle.lsp_words.specs.declared.object.Capabilities.{Capabilities}
use Rattle.lsp_words.specs.declared.object.MetricType.{MetricType}
use Rattle.lsp_words.specs.declared.object.MetricType.TheVariants.{Igp, Te, Hops}
use Rattle.pcep_messages.specs.Normal.{IsWord}
use Rattle.pcep_messages.specs.declared.fault.MessageFault.{MessageFault}
use Rattle.pcep_messages.specs.declared.message.Message.{Message}
use Rattle.lsp_base.specs.declared.lsp.Constraints.{Constraints}
use Rattle.lsp_base.specs.declared.lsp.OtherBounds.{OtherBounds}
use Rattle.link_reload.specs.declared.entry.LinkReload.{LinkReload}
use Rattle.commit_core.specs.declared.ticket.Purpose.{Purpose}
use Rattle.commit_core.specs.declared.ticket.Purpose.TheVariants as purpose
use Rattle.step_core.specs.declared.event.Event.{Event}
use Rattle.step_core.specs.declared.event.Event.TheVariants as event
use Rattle.item_messages.specs.Reports.{report_written, report_fits}
use Rattle.pcep_messages.specs.declared.message.StateReport.{StateReport}
use Rattle.pcep_messages.specs.declared.message.PathRequest.{PathRequest}
use Rattle.item_messages.specs.Requests.{request_written, request_fits}
use Rattle.item_messages.proofs.ReportsAgain as report_bytes
use Rattle.item_messages.proofs.RequestsAgain as request_bytes
use Rattle.line_words.proofs.Again.{ends}
use Rattle.line_words.specs.First.{◌>>=◌}
use Rattle.step_lines.specs.Requests.{bound_on, bounds_beside, bounds_for, constraints_of, purpose_of, request_for, same_bound, has_one_bound, is_asked}
use Rattle.step_lines.specs.Wanted.{wanted_of, may_be_wanted}
use Rattle.step_lines.specs.Events.{capability_words, wanted_words, purpose_words, entries_words, offer_text, event_words}
use Rattle.line_words.specs.Written.{number_word, address_word, hex_word}
use Rattle.step_lines.specs.EventReading.{plsp_in, one_request, capabilities_in, up_in, report_in, ask_in, commit_in, refused_in, lsp_in, reload_in, of_peer, of_lsp, initiate_in, answer_in, purpose_with, purpose_in, rare_event_with, event_with, event_in}
use Rattle.step_lines.specs.Lines.{purpose_has_line, has_line}
use Rattle.step_lines.specs.Normal.{IsPurpose, IsEvent}
use Rattle.line_words.proofs.FirstWords.{number_last, long_first, address_first, address_last, bytes_first, bytes_last, cut_last, plsp_last}
use Rattle.step_lines.proofs.WantedAgain.{something, wanted_again, bound_again as wanted_bound_again}
use Rattle.step_lines.proofs.LinksAgain.{offer_again, offer_word, entries_again}
use Rattle.line_words.specs.Joined.{◌+>◌}

-- ---- what is asked to answer a request

same_bounds : (bound other : Option ℕ) → same_bound bound other ≡ true → other ≡ bound
same_bounds None None h = refl
same_bounds None (Some b) h = cc
same_bounds (Some a) None h = cc
same_bounds (Some a) (Some b) h = let e : b ≡ a = grind (arith, nat_tests) in ap (λ (n : ℕ). Some n) e

nothing : (o : Option ℕ) → is_none o ≡ true → None ≡ o
nothing None h = refl
nothing (Some x) h = cc

off : (b : Bool) → not b ≡ true → false ≡ b
off true h = cc
off false h = refl

bound_again : (m : MetricType) (bound hops : Option ℕ) (other : OtherBounds) → has_one_bound m bound hops other ≡ true → bound_on m (bounds_for m bound hops other) ≡ bound
bound_again Igp bound hops other h = refl
bound_again Te bound hops other h = refl
bound_again Hops bound hops other h = same_bounds bound hops h

hops_again : (m : MetricType) (bound hops : Option ℕ) (other : OtherBounds) → (bounds_for m bound hops other).hops ≡ hops
hops_again Igp bound hops other = refl
hops_again Te bound hops other = refl
hops_again Hops bound hops other = refl

beside_again : (m : MetricType) (bound hops : Option ℕ) (other : OtherBounds) → has_one_bound m bound hops other ≡ true → bounds_beside m (bounds_for m bound hops other) ≡ other
beside_again Igp bound hops other h = ap (λ (igp : Option ℕ). record { igp = igp; te = other.te }) (nothing other.igp h)
beside_again Te bound hops other h = ap (λ (te : Option ℕ). record { igp = other.igp; te = te }) (nothing other.te h)
beside_again Hops bound hops other h = refl

abbrev rebuilt : Constraints → Option ℕ → Option ℕ → Option ℕ → Option ℕ → OtherBounds → Bool → Constraints
rebuilt c source destination bound hops other protected =
    record c { source = source; destination = destination; bound = bound; hop_bound = hops; other_bounds = other; local_protection = protected }

pub asked_again : (request : ℕ) (plsp : Option ℕ) (c : Constraints) → is_asked c ≡ true → constraints_of (request_for request plsp c) ≡ c
asked_again request plsp c h =
    let three = and_parts (is_some c.source && is_some c.destination && has_one_bound c.minimise c.bound c.hop_bound c.other_bounds) (not c.local_protection) h in
    let two = and_parts (is_some c.source && is_some c.destination) (has_one_bound c.minimise c.bound c.hop_bound c.other_bounds) three.0 in
    let one = and_parts (is_some c.source) (is_some c.destination) two.0 in
    let bounds = bounds_for c.minimise c.bound c.hop_bound c.other_bounds in
    ap (λ (x : Option ℕ). rebuilt c x (Some (unwrap_or c.destination 0)) (bound_on c.minimise bounds) bounds.hops (bounds_beside c.minimise bounds) false) (something c.source one.0)
    ∙ ap (λ (x : Option ℕ). rebuilt c c.source x (bound_on c.minimise bounds) bounds.hops (bounds_beside c.minimise bounds) false) (something c.destination one.1)
    ∙ ap (λ (x : Option ℕ). rebuilt c c.source c.destination x bounds.hops (bounds_beside c.minimise bounds) false) (bound_again c.minimise c.bound c.hop_bound c.other_bounds two.1)
    ∙ ap (λ (x : Option ℕ). rebuilt c c.source c.destination c.bound x (bounds_beside c.minimise bounds) false) (hops_again c.minimise c.bound c.hop_bound c.other_bounds)
    ∙ ap (λ (x : OtherBounds). rebuilt c c.source c.destination c.bound c.hop_bound x false) (beside_again c.minimise c.bound c.hop_bound c.other_bounds two.1)
    ∙ ap (λ (x : Bool). rebuilt c c.source c.destination c.bound c.hop_bound c.other_bounds x) (off c.local_protection three.1)

-- ---- purposes

plsp_again : (plsp : ℕ) → plsp < 2 ^ 20 → plsp_in (number_word plsp) ≡ Some plsp
unfolding plsp_in
plsp_again plsp small = rw (plsp_last plsp small) refl

initiate_again : (name : List ℕ) (c : Constraints) → IsPurpose (purpose.Initiate name c) → may_be_wanted c ≡ true
    → initiate_in (hex_word name +> wanted_words (wanted_of c)) ≡ Some (purpose.Initiate name c)
unfolding initiate_in
initiate_again name c is asked =
    rw (bytes_first name (wanted_words (wanted_of c)) is.1, wanted_again (wanted_of c) is.2, is.0) (ap (λ (x : Constraints). Some (purpose.Initiate name x)) (wanted_bound_again c asked))

answer_again : (request : ℕ) (plsp : Option ℕ) (c : Constraints) → IsPurpose (purpose.Answer request plsp c) → is_asked c ≡ true
    → answer_in (hex_word (request_written (request_for request plsp c))) ≡ Some (purpose.Answer request plsp c)
unfolding answer_in
answer_again request plsp c is asked =
    let r = request_for request plsp c in
    let reads = request_bytes.again r is.0 in
    rw (bytes_last (request_written r) is.1) (ap (λ (m : Result Message MessageFault). one_request m >>= (λ (x : PathRequest). Some (purpose_of x))) reads)
    ∙ ap (λ (asked : Constraints). Some (purpose.Answer request plsp asked)) (asked_again request plsp c asked)

purpose_again : (p : Purpose) → IsPurpose p → purpose_has_line p ≡ true → purpose_in (purpose_words p) ≡ Some p
unfolding purpose_words purpose_in purpose_with
purpose_again (purpose.Update plsp) is has = rw (ends (codes "update") (number_word plsp) refl, plsp_again plsp is) refl
purpose_again (purpose.Initiate name c) is has = rw (ends (codes "initiate") (hex_word name +> wanted_words (wanted_of c)) refl) (initiate_again name c is has)
purpose_again (purpose.Answer request plsp c) is has =
    rw (ends (codes "answer") (hex_word (request_written (request_for request plsp c))) refl) (answer_again request plsp c is (and_parts (is_asked c) (request_fits (request_for request plsp c)) has).0)

-- ---- events

capabilities_by : (update create : Bool) → capabilities_in (capability_words (Some (record { update = update; create = create }))) ≡ Some (Some (record { update = update; create = create }))
unfolding capabilities_in
capabilities_by false false = refl
capabilities_by false true = refl
capabilities_by true false = refl
capabilities_by true true = refl

capabilities_again : (sent : Option Capabilities) → capabilities_in (capability_words sent) ≡ Some sent
unfolding capabilities_in
capabilities_again None = refl
capabilities_again (Some c) = capabilities_by c.update c.create

up_again : (peer : ℕ) (sent : Option Capabilities) → IsWord peer → up_in (address_word peer +> capability_words sent) ≡ Some (event.Up peer sent)
unfolding up_in
up_again peer sent is = rw (address_first peer (capability_words sent) is, capabilities_again sent) refl

peer_again : (of : ℕ → Event) (peer : ℕ) → IsWord peer → of_peer of (address_word peer) ≡ Some (of peer)
unfolding of_peer
peer_again of peer is = rw (address_last peer is) refl

lsp_again : (of : ℕ → ℕ → Event) (peer plsp : ℕ) → IsWord peer → plsp < 2 ^ 20 → of_lsp of (address_word peer +> number_word plsp) ≡ Some (of peer plsp)
unfolding of_lsp lsp_in
lsp_again of peer plsp is small = rw (address_first peer (number_word plsp) is, plsp_again plsp small) refl

refused_again : (peer srp : ℕ) → IsWord peer → IsWord srp → refused_in (address_word peer +> number_word srp) ≡ Some (event.Refused peer srp)
unfolding refused_in
refused_again peer srp is small = rw (address_first peer (number_word srp) is, number_last srp small) refl

commit_again : (ticket : ℕ) (offer : Option (List ℕ)) → IsEvent (event.Commit ticket offer) → commit_in (number_word ticket +> offer_text offer +> codes " ") ≡ Some (event.Commit ticket offer)
unfolding commit_in
commit_again ticket offer is = rw (long_first ticket (offer_text offer +> codes " ") is.0, cut_last (offer_text offer) (offer_word offer is.1), offer_again offer is.1) refl

ask_again : (peer : ℕ) (p : Purpose) → IsEvent (event.Ask peer p) → purpose_has_line p ≡ true → ask_in (address_word peer +> purpose_words p) ≡ Some (event.Ask peer p)
unfolding ask_in
ask_again peer p is has = rw (address_first peer (purpose_words p) is.0, purpose_again p is.1 has) refl

report_again : (peer : ℕ) (report : StateReport) → IsEvent (event.Report peer report) → report_fits report ≡ true → report_in (address_word peer +> hex_word (report_written report)) ≡ Some (event.Report peer report)
unfolding report_in
report_again peer report is fits =
    rw (address_first peer (hex_word (report_written report)) is.0, bytes_last (report_written report) is.2, report_bytes.again report is.1 fits) refl

reload_again : (entries : List LinkReload) → IsEvent (event.Reload entries) → reload_in (entries_words entries) ≡ Some (event.Reload entries)
unfolding reload_in
reload_again entries is = rw (entries_again entries is) refl

pub event_again : (e : Event) → IsEvent e → has_line e ≡ true → event_in (event_words e) ≡ Some e
unfolding event_words event_in event_with rare_event_with
event_again (event.Up peer sent) is has = rw (ends (codes "up") (address_word peer +> capability_words sent) refl) (up_again peer sent is)
event_again (event.Report peer report) is has = rw (ends (codes "report") (address_word peer +> hex_word (report_written report)) refl) (report_again peer report is has)
event_again (event.Marker peer) is has = rw (ends (codes "marker") (address_word peer) refl) (peer_again (λ p. event.Marker p) peer is)
event_again (event.Down peer) is has = rw (ends (codes "down") (address_word peer) refl) (peer_again (λ p. event.Down p) peer is)
event_again (event.Expire peer) is has = rw (ends (codes "expire") (address_word peer) refl) (peer_again (λ p. event.Expire p) peer is)
event_again (event.Ask peer p) is has = rw (ends (codes "ask") (address_word peer +> purpose_words p) refl) (ask_again peer p is has)
event_again event.Take is has = refl
event_again (event.Commit ticket offer) is has = rw (ends (codes "commit") (number_word ticket +> offer_text offer +> codes " ") refl) (commit_again ticket offer is)
event_again (event.Drain peer) is has = rw (ends (codes "drain") (address_word peer) refl) (peer_again (λ p. event.Drain p) peer is)
event_again (event.Refused peer srp) is has = rw (ends (codes "refused") (address_word peer +> number_word srp) refl) (refused_again peer srp is.0 is.1)
event_again (event.Return peer plsp) is has = rw (ends (codes "return") (address_word peer +> number_word plsp) refl) (lsp_again (λ p q. event.Return p q) peer plsp is.0 is.1)
event_again (event.Delete peer plsp) is has = rw (ends (codes "delete") (address_word peer +> number_word plsp) refl) (lsp_again (λ p q. event.Delete p q) peer plsp is.0 is.1)
event_again (event.Reload entries) is has = rw (ends (codes "reload") (entries_words entries) refl) (reload_again entries is)
