-- What log lines are about.
use Rattle.std.specs.Prelude.{ℕ, Bool, true, false, List, codes, Option, Some, None}
use Rattle.log.specs.declared.level.Level.{Level}
use Rattle.log.specs.declared.level.Level.TheVariants.{Warn, Info, Debug}
use Rattle.lsp_base.specs.Whys.{number_of}
use Rattle.lsp_base.specs.declared.why.Why.{Why}
use Rattle.lsp_base.specs.declared.why.Why.TheVariants as why
use Rattle.lsp_words.specs.declared.object.Capabilities.{Capabilities}
use Rattle.step_core.specs.declared.event.Event.{Event}
use Rattle.step_core.specs.declared.event.Event.TheVariants as event
use Rattle.server_log.specs.Decisions.{decision_kind, decision_level, decision_peer}
use Rattle.server_log.specs.declared.decisions.Decision.TheVariants.{NotBooked}
use Rattle.server_log.specs.declared.kinds.Kind.{Kind}
use Rattle.server_log.specs.declared.kinds.Kind.TheVariants as kind
use Rattle.server_log.specs.declared.log_lines.LogLine.{LogLine}
use Rattle.server_log.specs.declared.log_lines.LogLine.TheVariants as line

abbrev pub kind_number : Kind → ℕ
kind_number kind.Listening = 0
kind_number kind.Up = 1
kind_number kind.InSync = 2
kind_number kind.Ended = 3
kind_number kind.Forgotten = 4
kind_number kind.Rolled = 5
kind_number kind.AcceptFailed = 6
kind_number kind.MemoryRefused = 7
kind_number kind.Worker = 8
kind_number kind.Operator = 9
kind_number kind.Refused = 10
kind_number kind.Settled = 11
kind_number kind.Stranger = 12
kind_number kind.BelowZero = 13
kind_number kind.ControlSocket = 14
kind_number kind.FewDescriptors = 15
kind_number kind.Viewers = 16
kind_number kind.Audited = 17
kind_number kind.Log = 18
kind_number kind.NoAnswer = 19
kind_number kind.RouterRefused = 20
kind_number kind.Slowed = 21
kind_number kind.Asked = 22
kind_number kind.Granted = 23
kind_number kind.Replied = 24
kind_number kind.NoPath = 25
kind_number kind.GaveUp = 26
kind_number kind.Answered = 27
kind_number kind.Ordered = 28
kind_number kind.Reloaded = 29
kind_number kind.NotBooked = 30
kind_number kind.Journal = 31

abbrev pub subject : Kind → List ℕ
subject kind.Listening = codes "listening"
subject kind.Up = codes "up"
subject kind.InSync = codes "in sync"
subject kind.Ended = codes "ended"
subject kind.Forgotten = codes "forgotten"
subject kind.Rolled = codes "rolled"
subject kind.AcceptFailed = codes "accept failed"
subject kind.MemoryRefused = codes "memory refused"
subject kind.Worker = codes "worker"
subject kind.Operator = codes "operator"
subject kind.Refused = codes "refused"
subject kind.Settled = codes "settled"
subject kind.Stranger = codes "unknown router"
subject kind.BelowZero = codes "below zero"
subject kind.ControlSocket = codes "control socket"
subject kind.FewDescriptors = codes "LimitNOFILE"
subject kind.Viewers = codes "viewers"
subject kind.Audited = codes "audited"
subject kind.Log = codes "log"
subject kind.NoAnswer = codes "no answer"
subject kind.RouterRefused = codes "router refused"
subject kind.Slowed = codes "slowed"
subject kind.Asked = codes "asked"
subject kind.Granted = codes "granted"
subject kind.Replied = codes "replied"
subject kind.NoPath = codes "no path"
subject kind.GaveUp = codes "gave up"
subject kind.Answered = codes "answered"
subject kind.Ordered = codes "operator lines"
subject kind.Reloaded = codes "reload"
subject kind.NotBooked = codes "not booked"
subject kind.Journal = codes "journal"

abbrev pub kind_of : LogLine → Kind
kind_of (line.Listening address port nodes links) = kind.Listening
kind_of (line.Up peer timers capabilities) = kind.Up
kind_of (line.InSync peer lsps after_ms) = kind.InSync
kind_of (line.Ended peer reason) = kind.Ended
kind_of (line.Forgotten peer) = kind.Forgotten
kind_of (line.NotForgotten peer number) = kind.Forgotten
kind_of (line.Rolled steps) = kind.Rolled
kind_of line.AcceptFailed = kind.AcceptFailed
kind_of line.MemoryRefused = kind.MemoryRefused
kind_of (line.WorkerFault fault) = kind.Worker
kind_of line.OperatorGone = kind.Operator
kind_of line.ControlGone = kind.ControlSocket
kind_of line.ViewersGone = kind.Viewers
kind_of line.JournalGone = kind.Journal
kind_of (line.Refused peer number) = kind.Refused
kind_of line.Settled = kind.Settled
kind_of (line.Stranger address count) = kind.Stranger
kind_of (line.BelowZero link local remote worst) = kind.BelowZero
kind_of (line.FewDescriptors limit) = kind.FewDescriptors
kind_of (line.Audited steps grants) = kind.Audited
kind_of (line.Withheld withheld lines) = kind.Log
kind_of (line.Lost lines) = kind.Log
kind_of (line.NoAnswer peer srp plsp) = kind.NoAnswer
kind_of (line.RouterRefused peer srp lsp error) = kind.RouterRefused
kind_of (line.Slowed peer pause_ms) = kind.Slowed
kind_of (line.Decided decision) = decision_kind decision

-- info for sessions and the run, warn for faults, debug for what the state refused
abbrev pub level_of : LogLine → Level
level_of (line.Listening address port nodes links) = Info
level_of (line.Up peer timers capabilities) = Info
level_of (line.InSync peer lsps after_ms) = Info
level_of (line.Ended peer reason) = Info
level_of (line.Forgotten peer) = Info
level_of (line.NotForgotten peer number) = Info
level_of (line.Rolled steps) = Info
level_of line.AcceptFailed = Warn
level_of line.MemoryRefused = Warn
level_of (line.WorkerFault fault) = Warn
level_of line.OperatorGone = Warn
level_of line.ControlGone = Warn
level_of line.ViewersGone = Warn
level_of line.JournalGone = Warn
level_of (line.Refused peer number) = Debug
level_of line.Settled = Info
level_of (line.Stranger address count) = Warn
level_of (line.BelowZero link local remote worst) = Warn
level_of (line.FewDescriptors limit) = Warn
level_of (line.Audited steps grants) = Info
level_of (line.Withheld kind lines) = Warn
level_of (line.Lost lines) = Warn
level_of (line.NoAnswer peer srp plsp) = Warn
level_of (line.RouterRefused peer srp lsp error) = Info
level_of (line.Slowed peer pause_ms) = Warn
level_of (line.Decided decision) = decision_level decision

-- the router that a line is about, or 0
abbrev pub router_of : LogLine → ℕ
router_of (line.Listening address port nodes links) = 0
router_of (line.Up peer timers capabilities) = peer
router_of (line.InSync peer lsps after_ms) = peer
router_of (line.Ended peer reason) = peer
router_of (line.Forgotten peer) = peer
router_of (line.NotForgotten peer number) = peer
router_of (line.Rolled steps) = 0
router_of line.AcceptFailed = 0
router_of line.MemoryRefused = 0
router_of (line.WorkerFault fault) = 0
router_of line.OperatorGone = 0
router_of line.ControlGone = 0
router_of line.ViewersGone = 0
router_of line.JournalGone = 0
router_of (line.Refused peer number) = peer
router_of line.Settled = 0
router_of (line.Stranger address count) = address
router_of (line.BelowZero link local remote worst) = 0
router_of (line.FewDescriptors limit) = 0
router_of (line.Audited steps grants) = 0
router_of (line.Withheld kind lines) = 0
router_of (line.Lost lines) = 0
router_of (line.NoAnswer peer srp plsp) = peer
router_of (line.RouterRefused peer srp lsp error) = peer
router_of (line.Slowed peer pause_ms) = peer
router_of (line.Decided decision) = decision_peer decision

abbrev pub updating : Bool → Bool → List ℕ
updating false false = codes "stateful"
updating true false = codes "stateful,update"
updating false true = codes "stateful,initiate"
updating true true = codes "stateful,update,initiate"

-- what a STATEFUL-PCE-CAPABILITY says (RFC 8231 section 7.1.1)
abbrev pub capability_words : Option Capabilities → List ℕ
capability_words None = codes "stateless"
capability_words (Some c) = updating c.update c.create

-- ---- that an event of a peer was refused. A report that is refused because too many paths stand has a line of its own

abbrev pub refused_report : ℕ → ℕ → Why → LogLine
refused_report peer plsp why.TooManyPaths = line.Decided (NotBooked peer plsp)
refused_report peer plsp other = line.Refused peer (number_of other)

abbrev pub refusal_line : ℕ → Event → Why → LogLine
refusal_line peer (event.Report of report) why = refused_report peer report.plsp why
refusal_line peer other why = line.Refused peer (number_of why)
