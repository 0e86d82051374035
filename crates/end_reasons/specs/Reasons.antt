-- Why connections end, in words.
use Rattle.std.specs.Prelude.{ℕ, ◌==◌, ◌&&◌, ◌||◌, ◌++◌, List, codes, Option, Some, None, if◌then◌else◌}
use Rattle.std.specs.Fmt.{decimal}
use Rattle.error_words.specs.Errors.{error_words, close_words}
use Rattle.history_core.specs.Faults.{fault_text}
use Rattle.server_rules.specs.declared.peer_errors.PcErr.{PcErr}
use Rattle.end_reasons.specs.declared.reason.LastWords.{LastWords}
use Rattle.end_reasons.specs.declared.reason.Reason.{Reason}
use Rattle.end_reasons.specs.declared.reason.Reason.TheVariants as reason

-- ---- in a line of the log

abbrev pub code_text : PcErr → List ℕ
code_text error = codes "PCErr " ++ decimal error.kind ++ codes "/" ++ decimal error.value

-- what the server's own error means: an IPv6 LSP lacks the IPv4 identifiers, and the server reads no others
abbrev pub own_words : PcErr → List ℕ
own_words error =
    if error.kind == 6 && error.value == 11 then codes "LSP-IDENTIFIERS TLV missing or of IPv6" else error_words error.kind error.value

-- the text for the reason of the Close that the session sent (RFC 5440 section 7.17)
abbrev pub ending_text : Option ℕ → List ℕ
ending_text None = codes "session ended"
ending_text (Some number) =
    if number == 2 then codes "DeadTimer"
    else (if number == 3 then codes "malformed message"
    else codes "closed for reason " ++ decimal number)

abbrev pub error_text : Option PcErr → List ℕ
error_text None = codes ""
error_text (Some error) = codes ": " ++ code_text error ++ codes ", " ++ own_words error

abbrev pub last_text : LastWords → List ℕ
last_text said = ending_text said.close ++ error_text said.error

-- the words for a Close of the peer; the reason "no explanation" isn't printed
abbrev pub peer_close_text : ℕ → List ℕ
peer_close_text number =
    if number == 1 then codes "closed by the peer" else codes "closed by the peer: Close " ++ decimal number ++ codes ", " ++ close_words number

abbrev pub refused_text : ℕ → List ℕ
refused_text number = if number == 2 then codes "second session" else codes "refused " ++ decimal number

abbrev pub reason_text : Reason → List ℕ
reason_text reason.PeerClosed = codes "closed by the peer"
reason_text (reason.PeerClose number) = peer_close_text number
reason_text (reason.Session said) = last_text said
reason_text reason.ReadFault = codes "read failed"
reason_text reason.WriteFault = codes "write failed or timed out"
reason_text (reason.StoreFault fault) = fault_text fault
reason_text reason.PlaceTaken = codes "place taken by another"
reason_text reason.RunEnds = codes "closed by the server"
reason_text (reason.Refused number) = refused_text number
reason_text reason.Unheard = codes "rejected"

-- ---- in one word, as ends are counted and shown

-- a session ends with a Close of reason 2 for the DeadTimer, and one of reason 3 for a malformed message (RFC 5440
-- section 7.17)
abbrev pub closing_word : Option ℕ → List ℕ
closing_word None = codes "session ended"
closing_word (Some number) =
    if number == 2 then codes "DeadTimer"
    else (if number == 3 then codes "malformed message"
    else codes "closed for another reason")

-- the refusal with number 2 says that the peer is up
abbrev pub reason_word : Reason → List ℕ
reason_word reason.PeerClosed = codes "closed by the peer"
reason_word (reason.PeerClose number) = codes "closed by the peer"
reason_word (reason.Session said) = closing_word said.close
reason_word reason.ReadFault = codes "read failed"
reason_word reason.WriteFault = codes "write failed or timed out"
reason_word (reason.StoreFault fault) = codes "store fault"
reason_word reason.PlaceTaken = codes "place taken by another"
reason_word reason.RunEnds = codes "closed by the server"
reason_word (reason.Refused number) = if number == 2 then codes "second session" else codes "refused"
reason_word reason.Unheard = codes "rejected"

-- ---- the number that the word leaves out

abbrev pub closing_number : Option ℕ → Option ℕ
closing_number None = None
closing_number (Some number) = if number == 2 || number == 3 then None else Some number

abbrev pub reason_number : Reason → Option ℕ
reason_number (reason.Session said) = closing_number said.close
reason_number (reason.Refused number) = if number == 2 then None else Some number
reason_number _ = None
