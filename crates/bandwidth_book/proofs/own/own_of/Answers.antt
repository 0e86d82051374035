use Rattle.std.proofs.Common.{◌≡◌, map, rules}
use Rattle.lsp_base.specs.Shares.{priorities, share}
use Rattle.bandwidth_book.proofs.OwnShares.{maxima_are_shares}
use Rattle.bandwidth_book.proofs.own.own_of.Goals as goal

pub returns : goal.returns
returns c = λ paths t same.
    let e : c.maxima_in.result ≡ map (share paths t c.args.entry.now.link) (priorities 0 7)
    = maxima_are_shares c.maxima_in.result c.args.entry.now.entry.held paths t c.args.entry.now.link (search rules) c.maxima_in.ensures same in
    λ i. record { link = c.args.entry.now.link; shares = e i }
