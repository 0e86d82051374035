-- The words of what is kept of a reply, as `history` has them; a refusal of nodes that aren't known also says of which ends.
use Rattle.std.specs.Prelude.{ℕ, Bool, true, false, List, codes}
use Rattle.std.specs.Fmt.{decimal}
use Rattle.lsp_base.specs.declared.why.Ends.{Ends}
use Rattle.lsp_base.specs.declared.why.Ends.TheVariants.{Source, Destination, Both}
use Rattle.lsp_base.specs.declared.why.Why.{Why}
use Rattle.lsp_base.specs.declared.why.Why.TheVariants.{UnknownPeer, PeerUp, PeerDown, UnknownLsp, NotDelegated, Pending, NoUpdate, NoInitiate, NotCreatedHere, TooManyTickets, TooManyPaths, TooManyPeers, UnknownNode, UnknownTicket, NotTaken, NameInUse, SrpInUse, Syncing, BadReport, UnknownLink}
use Rattle.history_core.specs.declared.step.Brief.{Brief}
use Rattle.history_core.specs.declared.step.Brief.TheVariants as brief
use Rattle.line_words.specs.Joined.{◌+>◌}

abbrev pub ends_text : Ends → List ℕ
ends_text Source = codes "13 source"
ends_text Destination = codes "13 destination"
ends_text Both = codes "13 both"

-- the number of the refusal
abbrev pub why_text : Why → List ℕ
why_text UnknownPeer = codes "1"
why_text PeerUp = codes "2"
why_text PeerDown = codes "3"
why_text UnknownLsp = codes "4"
why_text NotDelegated = codes "5"
why_text Pending = codes "6"
why_text NoUpdate = codes "7"
why_text NoInitiate = codes "8"
why_text NotCreatedHere = codes "9"
why_text TooManyTickets = codes "10"
why_text TooManyPaths = codes "11"
why_text TooManyPeers = codes "12"
why_text (UnknownNode ends) = ends_text ends
why_text UnknownTicket = codes "14"
why_text NotTaken = codes "15"
why_text NameInUse = codes "16"
why_text SrpInUse = codes "17"
why_text Syncing = codes "18"
why_text BadReport = codes "19"
why_text UnknownLink = codes "20"

abbrev pub booked_text : Bool → List ℕ
booked_text false = codes "booked"
booked_text true = codes "booked wants"

abbrev pub reply_text : Brief → List ℕ
reply_text brief.Done = codes "done"
reply_text (brief.Booked wants) = booked_text wants
reply_text (brief.Asked ticket) = codes "asked " +> decimal ticket
reply_text (brief.Job ticket) = codes "job " +> decimal ticket
reply_text brief.Idle = codes "idle"
reply_text (brief.Granted srp) = codes "granted " +> decimal srp
reply_text brief.Answered = codes "answered"
reply_text brief.Again = codes "again"
reply_text brief.NoPath = codes "nopath"
reply_text brief.GivenUp = codes "givenup"
reply_text brief.Gone = codes "gone"
reply_text (brief.Removing srp) = codes "removing " +> decimal srp
reply_text (brief.Out messages) = codes "out " +> decimal messages
reply_text (brief.Refused why) = codes "refused " +> why_text why
