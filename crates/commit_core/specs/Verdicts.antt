-- What becomes of a ticket when its search answers.
use Rattle.std.specs.Prelude.{ℕ, Bool, false, ◌==◌, ◌&&◌, ◌||◌, not, nat_lt, nat_le, length, Option, Some, None, if◌then◌else◌}
use Rattle.te_base.specs.Ted.{Ted}
use Rattle.lsp_base.specs.Lsps.{Lsps, lsp_at}
use Rattle.lsp_base.specs.Pending.{is_delegated, is_pending}
use Rattle.lsp_base.specs.declared.path.Path.{Path}
use Rattle.commit_core.specs.Offers.{is_request}
use Rattle.commit_core.specs.Routes.{is_acceptable}
use Rattle.commit_core.specs.declared.ticket.Purpose.{Purpose}
use Rattle.commit_core.specs.declared.ticket.Purpose.TheVariants as purposes
use Rattle.commit_core.specs.declared.ticket.Ticket.{Ticket}
use Rattle.commit_core.specs.declared.verdict.PeerView.{PeerView}
use Rattle.commit_core.specs.declared.verdict.Verdict.{Verdict}
use Rattle.commit_core.specs.declared.verdict.Verdict.TheVariants.{Grant, Answer, Again, NoPath, GivenUp, Gone}

-- the LSP to update isn't delegated any more, or a grant or a removal of it is awaited
abbrev pub is_moot : Lsps → ℕ → Purpose → Bool
is_moot lsps peer (purposes.Update plsp) = not (is_delegated (lsp_at lsps.records peer plsp)) || is_pending lsps peer plsp
is_moot lsps peer (purposes.Initiate name constraints) = false
is_moot lsps peer (purposes.Answer request plsp constraints) = false

-- the peer is not up in the session in which the ticket was asked for; or it can't be sent an update or an initiation
-- now; or there is nothing to update
abbrev pub is_gone : Lsps → Ticket → PeerView → Bool
is_gone lsps t v = not (v.up && v.session == t.session) || (not (is_request t.purpose) && v.syncing || is_moot lsps t.peer t.purpose)

-- a ticket is searched for four times at most
abbrev pub unless_tried : Ticket → Verdict → Verdict
unless_tried t verdict = if nat_lt t.tries 4 then Again else verdict

-- there are 16,384 paths, or the next SRP-ID is still in use
abbrev pub cannot_be_granted : Lsps → PeerView → Bool
cannot_be_granted lsps v = nat_le 16384 (length lsps.paths) || v.srp_in_use

-- a request charges nothing, and takes no SRP-ID
abbrev pub accepted : Lsps → Ticket → PeerView → Verdict
accepted lsps t v = if is_request t.purpose then Answer else (if cannot_be_granted lsps v then GivenUp else Grant)

-- if there is no offer, but paths came or went, or links were reloaded, since the ticket was taken, it is searched for
-- again
abbrev pub judged : Ticket → Option Path → Lsps → Ted → PeerView → Verdict
judged t None lsps te v = if v.changes == t.seen then NoPath else unless_tried t NoPath
judged t (Some g) lsps te v = if is_acceptable te lsps.paths t.constraints g then accepted lsps t v else unless_tried t GivenUp

unfoldable pub verdict : Ticket → Option Path → Lsps → Ted → PeerView → Verdict
verdict t offer lsps te v = if is_gone lsps t v then Gone else judged t offer lsps te v
