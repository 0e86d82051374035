-- What lines of the log say.
use Rattle.std.specs.Prelude.{ℕ, List, codes, Option}
use Rattle.std.specs.Fmt.{decimal, signed_decimal}
use Rattle.server_log.specs.Joining.{◌+>◌}
use Rattle.error_words.specs.Errors.{error_words}
use Rattle.history_core.specs.Faults.{fault_text}
use Rattle.lsp_words.specs.declared.object.Capabilities.{Capabilities}
use Rattle.pcep_word.specs.Address.{text_of}
use Rattle.server_rules.specs.declared.peer_errors.PcErr.{PcErr}
use Rattle.server_log.specs.Decisions.{decision_text}
use Rattle.server_log.specs.LogLines.{capability_words, subject}
use Rattle.server_log.specs.Names.{name_text}
use Rattle.end_reasons.specs.Reasons.{code_text}
use Rattle.server_log.specs.declared.log_lines.LogLine.{LogLine}
use Rattle.server_log.specs.declared.log_lines.LogLine.TheVariants as line

abbrev pub opening_text : ℕ → ℕ → Option Capabilities → List ℕ
opening_text keepalive dead capabilities =
    codes "keepalive=" +> decimal keepalive +> codes "s dead=" +> decimal dead +> codes "s capabilities=" +> capability_words capabilities

abbrev pub refusal_text : PcErr → List ℕ
refusal_text error = code_text error +> codes " " +> error_words error.kind error.value

-- the text of a line; why a connection ended follows it (`Reasons`)
abbrev pub line_text : LogLine → List ℕ
line_text (line.Listening address port nodes links) =
    codes "listening " +> text_of address +> codes ":" +> decimal port +> codes " nodes=" +> decimal nodes +> codes " links=" +> decimal links
line_text (line.Up peer timers capabilities) =
    codes "up " +> text_of peer +> codes " " +> opening_text timers.keepalive timers.dead capabilities
line_text (line.InSync peer lsps after_ms) =
    codes "in sync " +> text_of peer +> codes " lsps=" +> decimal lsps +> codes " after=" +> decimal after_ms +> codes "ms"
line_text (line.Ended peer reason) = codes "ended " +> text_of peer
line_text (line.Forgotten peer) = codes "forgotten " +> text_of peer
line_text (line.NotForgotten peer number) = codes "not forgotten " +> text_of peer +> codes " refused=" +> decimal number
line_text (line.Rolled steps) = codes "rolled " +> decimal steps
line_text line.AcceptFailed = codes "accept failed"
line_text line.MemoryRefused = codes "memory refused"
line_text (line.WorkerFault fault) = codes "worker: " +> fault_text fault
line_text line.OperatorGone = codes "stdin closed"
line_text line.ControlGone = codes "control socket stopped"
line_text line.ViewersGone = codes "http stopped"
line_text line.JournalGone = codes "journal gone"
line_text (line.Refused peer number) = codes "refused " +> decimal number +> codes " " +> text_of peer
line_text line.Settled = codes "settled"
line_text (line.Stranger address count) = codes "unknown router " +> text_of address +> codes " count=" +> decimal count
line_text (line.BelowZero link local remote worst) =
    codes "below zero link=" +> decimal link +> codes " local=" +> text_of local +> codes " remote=" +> text_of remote
    +> codes " worst=" +> signed_decimal worst
line_text (line.FewDescriptors limit) = codes "LimitNOFILE=" +> decimal limit +> codes " is low"
line_text (line.Audited steps grants) = codes "audited steps=" +> decimal steps +> codes " grants=" +> decimal grants
line_text (line.Withheld kind lines) = codes "withheld " +> decimal lines +> codes " lines: " +> subject kind
line_text (line.Lost lines) = codes "lost " +> decimal lines +> codes " lines"
line_text (line.NoAnswer peer srp plsp) =
    codes "no answer " +> text_of peer +> codes " srp=" +> decimal srp +> codes " lsp=" +> decimal plsp
line_text (line.RouterRefused peer srp lsp error) =
    codes "router refused " +> text_of peer +> codes " srp=" +> decimal srp +> codes " lsp=" +> name_text lsp +> codes " " +> refusal_text error
line_text (line.Slowed peer pause_ms) = codes "slowed " +> text_of peer +> codes " pause=" +> decimal pause_ms +> codes "ms"
line_text (line.Decided decision) = decision_text decision
