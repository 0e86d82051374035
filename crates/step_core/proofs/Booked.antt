-- A book stays right when LSPs change.
use Rattle.std.proofs.Common.{◌≡◌, ℕ, List, ◌++◌, ◌∙◌}
use Rattle.te_base.specs.Ted.{Ted}
use Rattle.lsp_base.specs.Lsps.{Lsps, HasAll, changed, with_stale, without}
use Rattle.lsp_base.specs.declared.path.Path.{Path}
use Rattle.lsp_base.specs.declared.effect.Effect.{Effect}
use Rattle.bandwidth_book.specs.Books as books
use Rattle.bandwidth_book.specs.Books.{StandsFor}
use Rattle.bandwidth_book.specs.Ledgers.{count}
use Rattle.bandwidth_book.specs.declared.book.Book.{Book}
use Rattle.bandwidth_book.proofs.Stands.{stands_stale}
use Rattle.step_core.specs.Networks.{IsBooked}

-- making room changes nothing
pub IsBooked-reserved : (te : Ted) (base : Lsps) (old new : Book) → books.network_of new ≡ books.network_of old → ((paths : List Path) → StandsFor old paths → StandsFor new paths) → IsBooked te base old → IsBooked te base new
IsBooked-reserved te base old new same keeps is = record { network = same ∙ is.network; stands = keeps base.paths is.stands }

pub IsBooked-changed : (te : Ted) (base : Lsps) (old new : Book) (n : ℕ) (e : Effect) → books.network_of new ≡ books.network_of old
    → ((paths : List Path) → StandsFor old paths → HasAll paths e.change.dropped → StandsFor new (without paths e.change.dropped ++ e.change.added))
    → HasAll base.paths e.change.dropped → IsBooked te base old → IsBooked te (changed base n e) new
unfolding changed
IsBooked-changed te base old new n e same change has is = record { network = same ∙ is.network; stands = change base.paths is.stands has }

pub IsBooked-stale : (te : Ted) (base : Lsps) (book : Book) (n : ℕ) → IsBooked te base book → IsBooked te (with_stale base n) book
unfolding with_stale
IsBooked-stale te base book n is = record { network = is.network; stands = stands_stale (count book.ledgers) n (books.held_on book) base.paths is.stands }
