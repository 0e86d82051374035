-- The numbers of refusals.
use Rattle.std.specs.Prelude.{ℕ}
use Rattle.lsp_base.specs.declared.why.Why.{Why}
use Rattle.lsp_base.specs.declared.why.Why.TheVariants.{UnknownPeer, PeerUp, PeerDown, UnknownLsp, NotDelegated, Pending, NoUpdate, NoInitiate, NotCreatedHere, TooManyTickets, TooManyPaths, TooManyPeers, UnknownNode, UnknownTicket, NotTaken, NameInUse, SrpInUse, Syncing, BadReport, UnknownLink}

abbrev pub number_of : Why → ℕ
number_of UnknownPeer = 1
number_of PeerUp = 2
number_of PeerDown = 3
number_of UnknownLsp = 4
number_of NotDelegated = 5
number_of Pending = 6
number_of NoUpdate = 7
number_of NoInitiate = 8
number_of NotCreatedHere = 9
number_of TooManyTickets = 10
number_of TooManyPaths = 11
number_of TooManyPeers = 12
number_of (UnknownNode ends) = 13
number_of UnknownTicket = 14
number_of NotTaken = 15
number_of NameInUse = 16
number_of SrpInUse = 17
number_of Syncing = 18
number_of BadReport = 19
number_of UnknownLink = 20
