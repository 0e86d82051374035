use Rattle.std.proofs.Common.{◌≡◌, List, IfOk, ap, rules, ◌∙◌}
use Rattle.std.specs.Prelude.{ℤ}
use Rattle.lsp_base.specs.declared.path.Path.{Path}
use Rattle.te_snapshot.specs.Left.{state_beside}
use Rattle.te_snapshot.specs.Network.{NetworkState}
use Rattle.te_snapshot.specs.Room.{left}
use Rattle.bandwidth_book.specs.Books.{StandsFor, links_of, network_of}
use Rattle.bandwidth_book.specs.Tables.{AreLeft}
use Rattle.bandwidth_book.proofs.Tables.{are_left, if_ok}
use Rattle.bandwidth_book.proofs.book.Book.snapshot.Goals as goal

pub returns-then-self-clause-left : goal.returns-then-self-clause-left
returns-then-self-clause-left c =
    let whole : IfOk c.copy.result (λ s. (paths : List Path) → StandsFor c.args.self.now paths → s ≡ state_beside (network_of c.args.self.now) paths) = search rules in
    if_ok c.copy.result (λ s. (paths : List Path) → StandsFor c.args.self.now paths → s ≡ state_beside (network_of c.args.self.now) paths)
    (λ s. (paths : List Path) → StandsFor c.args.self.now paths → AreLeft (links_of c.args.self.now) paths s.unreserved) whole
    (λ s is paths stands l p less small. ap (λ (state : NetworkState). left state.unreserved l p) (is paths stands) ∙ are_left (links_of c.args.self.now) paths l p less small)

pub returns-clause-left : goal.returns-clause-left
returns-clause-left c = λ paths s l p less small.
    ap (λ (table : List (List ℤ)). left table l p) (c.in_ok-snapshot.ensures.left.left paths s) ∙ are_left (links_of c.args.self.now) paths l p less small
