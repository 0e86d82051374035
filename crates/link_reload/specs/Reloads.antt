-- Links whose metrics, colours and reservable bandwidths change while there are paths.
use Rattle.std.specs.Prelude.{◌≡◌, List, [], ◌∷◌, length, nat_lt, Option}
use Rattle.std.specs.List.{list_all}
use Rattle.te_base.specs.Ted.{Ted}
use Rattle.te_base.specs.Values.{with_link_values}
use Rattle.lsp_base.specs.Refusals.{unless}
use Rattle.lsp_base.specs.declared.why.Why.{Why}
use Rattle.lsp_base.specs.declared.why.Why.TheVariants.{UnknownLink}
use Rattle.te_snapshot.specs.Network.{network_of}
use Rattle.bandwidth_book.specs.Books as books
use Rattle.bandwidth_book.specs.declared.book.Book.{Book}
use Rattle.link_reload.specs.declared.entry.LinkReload.{LinkReload}

-- each entry's link exists
abbrev pub must_have_links : Ted → List LinkReload → Option Why
must_have_links te entries = unless (list_all (λ e. nat_lt e.link (length te.links)) entries) UnknownLink

-- one entry after the other: if there are several for one link, the last one counts
abbrev pub with_entries : Ted → List LinkReload → Ted
with_entries te [] = te
with_entries te (e ∷ es) = with_entries (with_link_values te e.link e.values) es

-- the book is over the network as it is
abbrev pub IsBookOf : Ted → Book → Type 0
IsBookOf te book = books.network_of book ≡ network_of te
