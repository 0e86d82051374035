use Rattle.std.proofs.Common.{◌≡◌, ◌<◌, ◌^◌, rules}
use Rattle.lsp_base.specs.Shares.{reservable}
use Rattle.bandwidth_book.proofs.Fits.{reservable_small}
use Rattle.bandwidth_book.proofs.book.Book.new.Goals as goal

pub invariant_of-result-clause-small : goal.invariant_of-result-clause-small
invariant_of-result-clause-small c = λ l.
    let small : reservable c.links.result.now l < 2 ^ 48 = reservable_small c.deref.result.now.nodes c.links.result.now c.links.ensures.sound l in
    let items : c.in_ok-links.links.items ≡ c.links.result.now = search rules in
    rw items small
