-- A network with the LSPs over it.
use Rattle.std.specs.Prelude.{ℕ, ◌≡◌, List}
use Rattle.te_base.specs.Ted.{Ted}
use Rattle.lsp_base.specs.Lsps.{Lsps, changed}
use Rattle.lsp_base.specs.declared.effect.Effect.{Effect}
use Rattle.te_snapshot.specs.Network.{network_of}
use Rattle.bandwidth_book.specs.Books as books
use Rattle.bandwidth_book.specs.Books.{StandsFor}
use Rattle.bandwidth_book.specs.declared.book.Book.{Book}
use Rattle.step_core.specs.States.{names_without}
use Rattle.step_core.specs.declared.names.AwaitedName.{AwaitedName}

pub record Network : Type 0 where
  pub te : Ted
  pub base : Lsps
  pub names : List AwaitedName

-- the network after an effect on a peer's LSPs; a name is dropped with its grant
abbrev pub carried_out : Network → ℕ → Effect → Network
carried_out n peer e = record n { base = changed n.base peer e; names = names_without n.names e.change.dropped }

-- the book is over the network, and stands for the paths of all LSPs
pub record IsBooked (te : Ted) (base : Lsps) (book : Book) : Type 0 where
  pub network : books.network_of book ≡ network_of te
  pub stands : StandsFor book base.paths
