-- What the log says about paths that were asked for: who asked, and what was decided.
use Rattle.std.specs.Prelude.{ℕ, Bool, true, false, List, [], length, codes, Option, None, Some, is_some}
use Rattle.std.specs.Fmt.{decimal}
use Rattle.commit_core.specs.declared.ticket.Purpose.{Purpose}
use Rattle.commit_core.specs.declared.ticket.Purpose.TheVariants as purpose
use Rattle.commit_core.specs.declared.ticket.Ticket.{Ticket}
use Rattle.lsp_base.specs.Whys.{number_of}
use Rattle.lsp_base.specs.declared.lsp.Constraints.{Constraints}
use Rattle.path_looks.specs.declared.answer.Obstacle.{Obstacle}
use Rattle.path_looks.specs.declared.answer.Obstacle.TheVariants as obstacle
use Rattle.pcep_word.specs.Address.{text_of}
use Rattle.step_core.specs.declared.event.Event.{Event}
use Rattle.step_core.specs.declared.event.Event.TheVariants as event
use Rattle.step_core.specs.declared.event.Reply.{Reply}
use Rattle.step_core.specs.declared.event.Reply.TheVariants as reply
use Rattle.asks.specs.Rates.{rate_text}
use Rattle.asks.specs.declared.ask.PathLimits.{PathLimits}
use Rattle.server_log.specs.Limits.{limits_text, line_word}
use Rattle.server_log.specs.Joining.{◌+>◌}
use Rattle.server_log.specs.Names.{begin_of, name_text}
use Rattle.server_log.specs.Paths.{front_of, links_text}
use Rattle.server_log.specs.declared.decisions.AskedPath.{AskedPath}
use Rattle.server_log.specs.declared.decisions.Asker.{Asker}
use Rattle.server_log.specs.declared.decisions.Asker.TheVariants as asker
use Rattle.server_log.specs.declared.decisions.Initiation.{Initiation}
use Rattle.server_log.specs.declared.decisions.Order.{Order}
use Rattle.server_log.specs.declared.decisions.Order.TheVariants as order
use Rattle.server_log.specs.declared.decisions.OrderReply.{OrderReply}
use Rattle.server_log.specs.declared.decisions.OrderReply.TheVariants as answer
use Rattle.server_log.specs.declared.decisions.Wanted.{Wanted}
use Rattle.server_log.specs.declared.decisions.Wanted.TheVariants.{Lsp, Request}
use Rattle.server_log.specs.declared.decisions.Decision.{Decision}
use Rattle.server_log.specs.declared.decisions.Decision.TheVariants as decision
use Rattle.server_log.specs.declared.kinds.Kind.{Kind}
use Rattle.server_log.specs.declared.kinds.Kind.TheVariants as kind
use Rattle.log.specs.declared.level.Level.{Level}
use Rattle.log.specs.declared.level.Level.TheVariants.{Warn, Info}
use Rattle.server_log.specs.declared.shown_links.ShownLinks.{ShownLinks}
use Rattle.server_log.specs.declared.shown_name.ShownName.{ShownName}

-- an initiation has the name of its LSP; for an update the caller gives it
abbrev pub wanted_by : Purpose → ShownName → Wanted
wanted_by (purpose.Update plsp) name = Lsp name
wanted_by (purpose.Initiate own constraints) name = Lsp (begin_of own)
wanted_by (purpose.Answer request plsp constraints) name = Request request

abbrev pub asker_of : Purpose → Asker → Asker
asker_of (purpose.Answer request plsp constraints) by = asker.Request
asker_of other by = by

-- ---- that a path was asked for, by the reply to the ask

abbrev pub asked : ℕ → Purpose → Reply → ShownName → Asker → Option Decision
asked peer purpose (reply.Asked ticket) name by =
    Some (decision.Asked (record { peer = peer; ticket = ticket; wanted = wanted_by purpose name }) (asker_of purpose by))
asked peer purpose other name by = None

-- ---- what was decided about a ticket, by the links that its commit offered and the reply to that

abbrev pub links_offered : Option (List ℕ) → ShownLinks
links_offered None = front_of []
links_offered (Some links) = front_of links

abbrev pub offered : Event → ShownLinks
offered (event.Commit ticket offer) = links_offered offer
offered other = front_of []

abbrev pub path_of : Ticket → ShownName → AskedPath
path_of ticket name = record { peer = ticket.peer; ticket = ticket.id; wanted = wanted_by ticket.purpose name }

abbrev pub verdict : Ticket → ShownLinks → Reply → ShownName → Option Obstacle → Option Decision
verdict ticket links (reply.Granted srp) name why = Some (decision.Granted (path_of ticket name) srp links)
verdict ticket links reply.Answered name why = Some (decision.Replied (path_of ticket name) links)
verdict ticket links reply.NoPath name why = Some (decision.NoPath (path_of ticket name) why)
verdict ticket links reply.GivenUp name why = Some (decision.GaveUp (path_of ticket name))
verdict ticket links other name why = None

-- ---- what an operator asked for, and how that was answered

abbrev pub address_of : Option ℕ → ℕ
address_of None = 0
address_of (Some address) = address

abbrev pub limits_of : Constraints → PathLimits
limits_of c = record { minimise = c.minimise; max_cost = c.bound; max_hops = c.hop_bound; colours = c.colours }

abbrev pub initiate_of : ℕ → ShownName → Constraints → Initiation
initiate_of peer name c = record {
  peer = peer;
  name = name;
  has_source = is_some c.source;
  source = address_of c.source;
  has_destination = is_some c.destination;
  destination = address_of c.destination;
  bandwidth = c.bandwidth;
  setup = (c.priorities).setup;
  hold = (c.priorities).hold;
  limits = limits_of c;
}

abbrev pub asked_of : ℕ → Purpose → Option Order
asked_of peer (purpose.Update plsp) = Some (order.Update peer plsp)
asked_of peer (purpose.Initiate name constraints) = Some (order.Initiate (initiate_of peer (begin_of name) constraints))
asked_of peer (purpose.Answer request plsp constraints) = None

abbrev pub order_of : Event → Option Order
order_of (event.Ask peer purpose) = asked_of peer purpose
order_of (event.Return peer plsp) = Some (order.Return peer plsp)
order_of (event.Delete peer plsp) = Some (order.Delete peer plsp)
order_of (event.Refused peer srp) = Some (order.Drop peer srp)
order_of (event.Reload links) = Some order.Reload
order_of other = None

abbrev pub order_reply : Reply → Option OrderReply
order_reply reply.Done = Some answer.Done
order_reply (reply.Asked ticket) = Some (answer.Asked ticket)
order_reply (reply.Removing srp) = Some (answer.Removing srp)
order_reply (reply.Refused why) = Some (answer.Refused (number_of why))
order_reply other = None

abbrev pub both : Option Order → Option OrderReply → Option Decision
both (Some order) (Some reply) = Some (decision.Ordered order reply)
both (Some order) None = None
both None reply = None

abbrev pub ordered : Event → Reply → Option Decision
ordered event reply = both (order_of event) (order_reply reply)

abbrev pub obeyed : ℕ → ℕ → Reply → Option Decision
obeyed links below reply.Done = Some (decision.Reloaded links below)
obeyed links below other = None

-- how many links a reload read, and how many it left below zero, if it was done
abbrev pub reloaded : Event → Reply → ℕ → Option Decision
reloaded (event.Reload links) reply below = obeyed (length links) below reply
reloaded other reply below = None

-- ---- what a decision is about

abbrev pub decision_kind : Decision → Kind
decision_kind (decision.Asked path by) = kind.Asked
decision_kind (decision.Granted path srp links) = kind.Granted
decision_kind (decision.Replied path links) = kind.Replied
decision_kind (decision.NoPath path why) = kind.NoPath
decision_kind (decision.GaveUp path) = kind.GaveUp
decision_kind (decision.Answered peer srp lsp after_ms) = kind.Answered
decision_kind (decision.Ordered order reply) = kind.Ordered
decision_kind (decision.Reloaded links below) = kind.Reloaded
decision_kind (decision.NotBooked peer plsp) = kind.NotBooked

-- the router's address, or 0
abbrev pub decision_peer : Decision → ℕ
decision_peer (decision.Asked path by) = path.peer
decision_peer (decision.Granted path srp links) = path.peer
decision_peer (decision.Replied path links) = path.peer
decision_peer (decision.NoPath path why) = path.peer
decision_peer (decision.GaveUp path) = path.peer
decision_peer (decision.Answered peer srp lsp after_ms) = peer
decision_peer (decision.Ordered order reply) = 0
decision_peer (decision.Reloaded links below) = 0
decision_peer (decision.NotBooked peer plsp) = peer

-- a path that isn't booked is a warning; all else is usual
abbrev pub decision_level : Decision → Level
decision_level (decision.Asked path by) = Info
decision_level (decision.Granted path srp links) = Info
decision_level (decision.Replied path links) = Info
decision_level (decision.NoPath path why) = Info
decision_level (decision.GaveUp path) = Info
decision_level (decision.Answered peer srp lsp after_ms) = Info
decision_level (decision.Ordered order reply) = Info
decision_level (decision.Reloaded links below) = Info
decision_level (decision.NotBooked peer plsp) = Warn

-- ---- in words

abbrev pub wanted_text : Wanted → List ℕ
wanted_text (Lsp name) = codes "lsp=" +> name_text name
wanted_text (Request request) = codes "request=" +> decimal request

abbrev pub asked_text : AskedPath → List ℕ
asked_text path = text_of path.peer +> codes " ticket=" +> decimal path.ticket +> codes " " +> wanted_text path.wanted

abbrev pub asker_text : Asker → List ℕ
asker_text asker.Report = codes "report"
asker_text asker.Request = codes "request"
asker_text asker.Operator = codes "operator"
asker_text asker.Retry = codes "retry"

abbrev pub obstacle_text : Obstacle → List ℕ
obstacle_text obstacle.Bandwidth = codes "bandwidth"
obstacle_text obstacle.Colours = codes "colours"
obstacle_text obstacle.Bounds = codes "bounds"
obstacle_text obstacle.Several = codes "several"

-- no obstacle is known if there is no way at all
abbrev pub why_text : Option Obstacle → List ℕ
why_text None = []
why_text (Some by) = codes " why=" +> obstacle_text by

abbrev pub end_text : Bool → ℕ → List ℕ
end_text false address = codes "-"
end_text true address = text_of address

-- the words of the operator's line, the bandwidth with its unit
abbrev pub initiate_text : Initiation → List ℕ
initiate_text i =
    line_word i.limits +> codes " " +> text_of i.peer +> codes " " +> name_text i.name +> codes " " +> end_text i.has_source i.source +> codes " " +> end_text i.has_destination i.destination
    +> codes " " +> rate_text i.bandwidth +> codes " " +> decimal i.setup +> codes " " +> decimal i.hold +> limits_text i.limits

abbrev pub order_text : Order → List ℕ
order_text (order.Initiate asked) = initiate_text asked
order_text (order.Update peer plsp) = codes "update " +> text_of peer +> codes " " +> decimal plsp
order_text (order.Return peer plsp) = codes "return " +> text_of peer +> codes " " +> decimal plsp
order_text (order.Delete peer plsp) = codes "delete " +> text_of peer +> codes " " +> decimal plsp
order_text (order.Drop peer srp) = codes "drop " +> text_of peer +> codes " " +> decimal srp
order_text order.Reload = codes "reload"

abbrev pub answer_text : OrderReply → List ℕ
answer_text answer.Done = codes "done"
answer_text (answer.Asked ticket) = codes "asked " +> decimal ticket
answer_text (answer.Removing srp) = codes "removing " +> decimal srp
answer_text (answer.Refused number) = codes "refused " +> decimal number

abbrev pub decision_text : Decision → List ℕ
decision_text (decision.Asked path by) = codes "asked " +> asked_text path +> codes " by=" +> asker_text by
decision_text (decision.Granted path srp links) =
    codes "granted " +> text_of path.peer +> codes " ticket=" +> decimal path.ticket +> codes " srp=" +> decimal srp +> codes " " +> wanted_text path.wanted
    +> codes " links=" +> links_text links
decision_text (decision.Replied path links) = codes "replied " +> asked_text path +> codes " links=" +> links_text links
decision_text (decision.NoPath path why) = codes "no path " +> asked_text path +> why_text why
decision_text (decision.GaveUp path) = codes "gave up " +> asked_text path
decision_text (decision.Answered peer srp lsp after_ms) =
    codes "answered " +> text_of peer +> codes " srp=" +> decimal srp +> codes " lsp=" +> name_text lsp +> codes " after=" +> decimal after_ms +> codes "ms"
decision_text (decision.Ordered order reply) = codes "operator " +> order_text order +> codes ": " +> answer_text reply
decision_text (decision.Reloaded links below) = codes "reload links=" +> decimal links +> codes " below=" +> decimal below
decision_text (decision.NotBooked peer plsp) = codes "not booked " +> text_of peer +> codes " lsp=" +> decimal plsp +> codes ": too many paths"
