-- What is kept of a reply is read again from its words.
use Rattle.std.proofs.Common.{◌≡◌, true, false, codes, Some, refl, arith}
use Rattle.lsp_base.specs.declared.why.Ends.TheVariants.{Source, Destination, Both}
use Rattle.lsp_base.specs.declared.why.Why.{Why}
use Rattle.lsp_base.specs.declared.why.Why.TheVariants.{UnknownPeer, PeerUp, PeerDown, UnknownLsp, NotDelegated, Pending, NoUpdate, NoInitiate, NotCreatedHere, TooManyTickets, TooManyPaths, TooManyPeers, UnknownNode, UnknownTicket, NotTaken, NameInUse, SrpInUse, Syncing, BadReport, UnknownLink}
use Rattle.history_core.specs.declared.step.Brief.{Brief}
use Rattle.history_core.specs.declared.step.Brief.TheVariants as brief
use Rattle.std.specs.Fmt.{decimal}
use Rattle.line_words.proofs.Again.{number_again, ends}
use Rattle.step_lines.specs.Normal.{IsReply}
use Rattle.step_lines.specs.Replies.{why_text, reply_text}
use Rattle.step_lines.specs.ReplyReading.{why_in, long_reply_with, long_reply_in, reply_in}

why_again : (why : Why) → why_in (why_text why) ≡ Some why
unfolding why_in
why_again UnknownPeer = refl
why_again PeerUp = refl
why_again PeerDown = refl
why_again UnknownLsp = refl
why_again NotDelegated = refl
why_again Pending = refl
why_again NoUpdate = refl
why_again NoInitiate = refl
why_again NotCreatedHere = refl
why_again TooManyTickets = refl
why_again TooManyPaths = refl
why_again TooManyPeers = refl
why_again (UnknownNode Source) = refl
why_again (UnknownNode Destination) = refl
why_again (UnknownNode Both) = refl
why_again UnknownTicket = refl
why_again NotTaken = refl
why_again NameInUse = refl
why_again SrpInUse = refl
why_again Syncing = refl
why_again BadReport = refl
why_again UnknownLink = refl

pub reply_again : (b : Brief) → IsReply b → reply_in (reply_text b) ≡ Some b
unfolding reply_in long_reply_in long_reply_with
reply_again brief.Done is = refl
reply_again (brief.Booked true) is = refl
reply_again (brief.Booked false) is = refl
reply_again (brief.Asked ticket) is = rw (ends (codes "asked") (decimal ticket) refl, number_again 64 ticket is is) refl
reply_again (brief.Job ticket) is = rw (ends (codes "job") (decimal ticket) refl, number_again 64 ticket is is) refl
reply_again brief.Idle is = refl
reply_again (brief.Granted srp) is = rw (ends (codes "granted") (decimal srp) refl, number_again 32 srp (omega arith) is) refl
reply_again brief.Answered is = refl
reply_again brief.Again is = refl
reply_again brief.NoPath is = refl
reply_again brief.GivenUp is = refl
reply_again brief.Gone is = refl
reply_again (brief.Removing srp) is = rw (ends (codes "removing") (decimal srp) refl, number_again 32 srp (omega arith) is) refl
reply_again (brief.Out messages) is = rw (ends (codes "out") (decimal messages) refl, number_again 64 messages is is) refl
reply_again (brief.Refused why) is = rw (ends (codes "refused") (why_text why) refl, why_again why) refl
