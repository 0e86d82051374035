-- Steps of which each field is one that its type keeps, so that the line reads as the step.
use Rattle.std.specs.Prelude.{ℕ, ◌≡◌, ◌^◌, ◌<◌, ◌≤◌, true, List, length, Option, Some, None}
use Rattle.std.specs.List.{AllByRecursion}
use Rattle.asks.specs.declared.ask.PathLimits.{PathLimits}
use Rattle.asks.specs.declared.ask.PathWanted.{PathWanted}
use Rattle.hex.specs.Hex.{IsBytes}
use Rattle.pcep_word.specs.Word.{IsBandwidth}
use Rattle.commit_core.specs.Names.{is_name}
use Rattle.commit_core.specs.declared.ticket.Purpose.{Purpose}
use Rattle.commit_core.specs.declared.ticket.Purpose.TheVariants as purpose
use Rattle.link_reload.specs.declared.entry.LinkReload.{LinkReload}
use Rattle.te_base.specs.Values.{AreInRange}
use Rattle.pcep_messages.specs.Normal.{IsWord, ArePriorities}
use Rattle.step_core.specs.declared.event.Event.{Event}
use Rattle.step_core.specs.declared.event.Event.TheVariants as event
use Rattle.history_core.specs.declared.step.Brief.{Brief}
use Rattle.history_core.specs.declared.step.Brief.TheVariants as brief
use Rattle.item_messages.specs.Reports.{IsReport, report_written}
use Rattle.item_messages.specs.Requests.{IsRequest, request_written}
use Rattle.step_lines.specs.Requests.{request_for}
use Rattle.step_lines.specs.Wanted.{wanted_of}
use Rattle.step_lines.specs.Lines.{has_line, line_of, line_limit}
use Rattle.step_lines.specs.declared.placed.PlacedStep.{PlacedStep}

abbrev pub IsLong : ℕ → Type 0
IsLong number = number < 2 ^ 64

abbrev pub MayBeLong : Option ℕ → Type 0
MayBeLong None = Unit {0}
MayBeLong (Some number) = IsLong number

pub record AreLimits (l : PathLimits) : Type 0 where
  pub max_cost : MayBeLong l.max_cost
  pub max_hops : MayBeLong l.max_hops
  pub exclude_any : IsWord (l.colours).exclude_any
  pub include_any : IsWord (l.colours).include_any
  pub include_all : IsWord (l.colours).include_all

pub record IsWanted (w : PathWanted) : Type 0 where
  pub from : IsWord w.from
  pub to : IsWord w.to
  pub bandwidth : IsBandwidth w.bandwidth
  pub priorities : ArePriorities w.priorities
  pub limits : AreLimits w.limits

abbrev pub IsPurpose : Purpose → Type 0
IsPurpose (purpose.Update plsp) = plsp < 2 ^ 20
IsPurpose (purpose.Initiate name c) = (is_name name ≡ true) × IsBytes name × IsWanted (wanted_of c)
IsPurpose (purpose.Answer request plsp c) = IsRequest (request_for request plsp c) × IsBytes (request_written (request_for request plsp c))

pub record IsEntry (entry : LinkReload) : Type 0 where
  pub link : IsLong entry.link
  pub colour : IsWord (entry.values).colour
  pub ranges : AreInRange entry.values

abbrev pub MayBeLinks : Option (List ℕ) → Type 0
MayBeLinks None = Unit {0}
MayBeLinks (Some links) = AllByRecursion IsLong links

abbrev pub IsEvent : Event → Type 0
IsEvent (event.Up peer sent) = IsWord peer
IsEvent (event.Report peer report) = IsWord peer × IsReport report × IsBytes (report_written report)
IsEvent (event.Marker peer) = IsWord peer
IsEvent (event.Down peer) = IsWord peer
IsEvent (event.Expire peer) = IsWord peer
IsEvent (event.Ask peer purpose) = IsWord peer × IsPurpose purpose
IsEvent event.Take = Unit {0}
IsEvent (event.Commit ticket offer) = IsLong ticket × MayBeLinks offer
IsEvent (event.Drain peer) = IsWord peer
IsEvent (event.Refused peer srp) = IsWord peer × IsWord srp
IsEvent (event.Return peer plsp) = IsWord peer × (plsp < 2 ^ 20)
IsEvent (event.Delete peer plsp) = IsWord peer × (plsp < 2 ^ 20)
IsEvent (event.Reload entries) = AllByRecursion IsEntry entries

abbrev pub IsReply : Brief → Type 0
IsReply (brief.Asked ticket) = IsLong ticket
IsReply (brief.Job ticket) = IsLong ticket
IsReply (brief.Granted srp) = IsWord srp
IsReply (brief.Removing srp) = IsWord srp
IsReply (brief.Out messages) = IsLong messages
IsReply b = Unit {0}

pub record IsStep (step : PlacedStep) : Type 0 where
  pub place : IsLong step.place
  pub event : IsEvent step.event
  pub brief : IsReply step.brief
  pub written : has_line step.event ≡ true
  pub small : length (line_of step) ≤ line_limit
