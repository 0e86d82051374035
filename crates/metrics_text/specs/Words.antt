-- Words for what is counted, as labels have them.
use Rattle.std.specs.Prelude.{ℕ, ◌==◌, List, codes, unwrap_or, if◌then◌else◌}
use Rattle.history_core.specs.Briefs.{brief_word}
use Rattle.server_counts.specs.declared.kinds.MessageKind.{MessageKind}
use Rattle.server_counts.specs.declared.kinds.MessageKind.TheVariants as message
use Rattle.server_counts.specs.declared.kinds.Counted.{Counted}
use Rattle.server_counts.specs.declared.kinds.Counted.TheVariants as counted
use Rattle.end_reasons.specs.Reasons.{reason_word}
use Rattle.pce_view.specs.Words.{state_word}
use Rattle.pce_view.specs.declared.states.LspState.{LspState}

abbrev pub refusal_word : ℕ → List ℕ
refusal_word number =
    if number == 1 then codes "unknown peer"
    else (if number == 2 then codes "peer up"
    else (if number == 3 then codes "peer down"
    else (if number == 4 then codes "unknown LSP"
    else (if number == 5 then codes "not delegated"
    else (if number == 6 then codes "pending"
    else (if number == 7 then codes "no update"
    else (if number == 8 then codes "no initiation"
    else (if number == 9 then codes "not created here"
    else (if number == 10 then codes "too many tickets"
    else (if number == 11 then codes "too many paths"
    else (if number == 12 then codes "too many peers"
    else (if number == 13 then codes "no node owns an end"
    else (if number == 14 then codes "unknown ticket"
    else (if number == 15 then codes "ticket not taken"
    else (if number == 16 then codes "name in use"
    else (if number == 17 then codes "SRP-ID in use"
    else (if number == 18 then codes "still synchronizing"
    else (if number == 19 then codes "bad report"
    else (if number == 20 then codes "unknown link"
    else codes "other")))))))))))))))))))

abbrev pub message_word : MessageKind → List ℕ
message_word message.Open = codes "Open"
message_word message.Keepalive = codes "Keepalive"
message_word message.Request = codes "PCReq"
message_word message.Reply = codes "PCRep"
message_word message.Notification = codes "PCNtf"
message_word message.Error = codes "PCErr"
message_word message.Close = codes "Close"
message_word message.Report = codes "PCRpt"
message_word message.Update = codes "PCUpd"
message_word message.Initiate = codes "PCInitiate"
message_word message.Other = codes "other"

-- the word that tells what is counted from the others of its metric
abbrev pub word_of : Counted → List ℕ
word_of (counted.Step e r) = brief_word r
word_of (counted.Refusal number) = refusal_word number
word_of counted.Accepted = codes ""
word_of counted.Stranger = codes ""
word_of (counted.Ended reason) = reason_word reason
word_of (counted.Received m) = message_word m
word_of (counted.Sent m) = message_word m
word_of (counted.ErrorSent kind value) = codes ""
word_of (counted.ErrorReceived kind value) = codes ""
word_of counted.NoAnswer = codes ""

-- an LSP of which nothing is known but what is booked is in no state
abbrev pub state_label : LspState → List ℕ
state_label s = unwrap_or (state_word s) (codes "unknown")
