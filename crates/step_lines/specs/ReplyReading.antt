-- The reply that words stand for.
use Rattle.std.specs.Prelude.{ℕ, true, false, List, codes, Option, Some, None, option_map, if◌then◌else◌}
use Rattle.std.specs.Str.{bytes_eq}
use Rattle.lsp_base.specs.declared.why.Ends.TheVariants.{Source, Destination, Both}
use Rattle.lsp_base.specs.declared.why.Why.{Why}
use Rattle.lsp_base.specs.declared.why.Why.TheVariants.{UnknownPeer, PeerUp, PeerDown, UnknownLsp, NotDelegated, Pending, NoUpdate, NoInitiate, NotCreatedHere, TooManyTickets, TooManyPaths, TooManyPeers, UnknownNode, UnknownTicket, NotTaken, NameInUse, SrpInUse, Syncing, BadReport, UnknownLink}
use Rattle.history_core.specs.declared.step.Brief.{Brief}
use Rattle.history_core.specs.declared.step.Brief.TheVariants as brief
use Rattle.line_words.specs.First.{◌>>=◌}
use Rattle.asks.specs.Words.{cut_at_space, number_in, long_number_in}

-- a number with the ends that no node owns
abbrev pub unknown_node_in : List ℕ → Option Why
unknown_node_in words =
    if bytes_eq words (codes "13 source") then Some (UnknownNode Source)
    else if bytes_eq words (codes "13 destination") then Some (UnknownNode Destination)
    else if bytes_eq words (codes "13 both") then Some (UnknownNode Both)
    else None

-- the refusals from the eleventh on
abbrev pub later_why_in : List ℕ → Option Why
later_why_in words =
    if bytes_eq words (codes "11") then Some TooManyPaths
    else if bytes_eq words (codes "12") then Some TooManyPeers
    else if bytes_eq words (codes "14") then Some UnknownTicket
    else if bytes_eq words (codes "15") then Some NotTaken
    else if bytes_eq words (codes "16") then Some NameInUse
    else if bytes_eq words (codes "17") then Some SrpInUse
    else if bytes_eq words (codes "18") then Some Syncing
    else if bytes_eq words (codes "19") then Some BadReport
    else if bytes_eq words (codes "20") then Some UnknownLink
    else unknown_node_in words

unfoldable pub why_in : List ℕ → Option Why
why_in words =
    if bytes_eq words (codes "1") then Some UnknownPeer
    else if bytes_eq words (codes "2") then Some PeerUp
    else if bytes_eq words (codes "3") then Some PeerDown
    else if bytes_eq words (codes "4") then Some UnknownLsp
    else if bytes_eq words (codes "5") then Some NotDelegated
    else if bytes_eq words (codes "6") then Some Pending
    else if bytes_eq words (codes "7") then Some NoUpdate
    else if bytes_eq words (codes "8") then Some NoInitiate
    else if bytes_eq words (codes "9") then Some NotCreatedHere
    else if bytes_eq words (codes "10") then Some TooManyTickets
    else later_why_in words

-- a reply of several words
unfoldable pub long_reply_with : List ℕ → List ℕ → Option Brief
long_reply_with word rest =
    if bytes_eq word (codes "asked") then option_map brief.Asked (long_number_in rest)
    else if bytes_eq word (codes "job") then option_map brief.Job (long_number_in rest)
    else if bytes_eq word (codes "granted") then option_map brief.Granted (number_in rest)
    else if bytes_eq word (codes "removing") then option_map brief.Removing (number_in rest)
    else if bytes_eq word (codes "out") then option_map brief.Out (long_number_in rest)
    else if bytes_eq word (codes "refused") then option_map brief.Refused (why_in rest)
    else None

unfoldable pub long_reply_in : List ℕ → Option Brief
long_reply_in text = do
  words ← cut_at_space text
  long_reply_with words.0 words.1

unfoldable pub reply_in : List ℕ → Option Brief
reply_in text =
    if bytes_eq text (codes "done") then Some brief.Done
    else if bytes_eq text (codes "booked") then Some (brief.Booked false)
    else if bytes_eq text (codes "booked wants") then Some (brief.Booked true)
    else if bytes_eq text (codes "idle") then Some brief.Idle
    else if bytes_eq text (codes "answered") then Some brief.Answered
    else if bytes_eq text (codes "again") then Some brief.Again
    else if bytes_eq text (codes "nopath") then Some brief.NoPath
    else if bytes_eq text (codes "givenup") then Some brief.GivenUp
    else if bytes_eq text (codes "gone") then Some brief.Gone
    else long_reply_in text
