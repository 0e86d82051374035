use Rattle.std.proofs.Common.{◌≡◌, List, length, ap, rules, ◌∙◌}
use Rattle.lsp_base.specs.declared.path.Path.{Path}
use Rattle.te_snapshot.specs.declared.own.OwnShare.{OwnShare}
use Rattle.te_snapshot.specs.Own.{own_shares}
use Rattle.te_snapshot.specs.Room.{own_share}
use Rattle.bandwidth_book.specs.Books.{StandsFor, links_of}
use Rattle.bandwidth_book.proofs.OwnShares.{own_share_is}
use Rattle.bandwidth_book.proofs.book.Book.own_shares.Goals as goal

pub returns-clause-shares : goal.returns-clause-shares
returns-clause-shares c =
    let listed : (paths : List Path) → StandsFor c.args.self.now paths → c.from_vec.result ≡ own_shares paths c.args.tunnel.now (length (links_of c.args.self.now)) = search rules in
    λ paths s l p less small.
    ap (λ (own : List OwnShare). own_share own l p) (listed paths s) ∙ own_share_is paths c.args.tunnel.now (length (links_of c.args.self.now)) l p less small
