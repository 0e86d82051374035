-- When a book stands for a list of paths.
use Rattle.std.specs.Prelude.{◌≡◌, ◌<◌, ℕ, true, List, [], Option, Some, None, length, if◌then◌else◌}
use Rattle.lsp_base.specs.declared.effect.Change.{Change}
use Rattle.lsp_base.specs.declared.path.Path.{Path}
use Rattle.lsp_base.specs.declared.tunnel.Tunnel.{Tunnel}
use Rattle.te_base.specs.declared.network.Link.{Link}
use Rattle.te_snapshot.specs.Network.{Network, NetworkState, with_links}
use Rattle.bandwidth_book.specs.declared.book.Book.{Book}
use Rattle.bandwidth_book.specs.Reservation.{Reservation}
use Rattle.bandwidth_book.specs.Ledgers.{count, has_entry_at, held_at, promised_on}
use Rattle.bandwidth_book.specs.Paths.{IsHeldBy, IsPromised}
use Rattle.bandwidth_book.specs.Promises.{noted}

-- the network, with its current links
abbrev pub network_of : Book → Network
network_of book = with_links book.last.network book.links.items

-- the links of the network
abbrev pub links_of : Book → List Link
links_of book = (network_of book).links

-- the snapshot that is given again while no path and no value changes
abbrev pub kept_by : Book → Option NetworkState
kept_by book = if book.is_kept then Some book.last else None

-- what a tunnel's paths hold on a link
abbrev pub held_on : Book → ℕ → Tunnel → List Reservation
held_on book = held_at book.ledgers

-- for each link, tunnel, holding priority and bandwidth, the book holds one reservation for each such path
abbrev pub StandsFor : Book → List Path → Type 0
StandsFor book paths = IsHeldBy (count book.ledgers) (held_at book.ledgers) paths

-- the book has promised room for what the change adds
abbrev pub IsReady : Book → Change → Type 0
IsReady book change = IsPromised (count book.ledgers) (promised_on book.ledgers) change.added

-- how often a reservation that no change has followed yet notes the tunnel on a link
abbrev pub pending_on : Book → ℕ → Tunnel → ℕ
pending_on book = noted book.pending

-- the tunnel has an entry on the link, and no path in it
abbrev pub HasEmptyEntry : Book → ℕ → Tunnel → Type 0
HasEmptyEntry book l t = (has_entry_at book.ledgers l t ≡ true) × (held_on book l t ≡ [])

-- no link has an entry without paths
abbrev pub HasNoEmptyEntry : Book → Type 0
HasNoEmptyEntry book = (l : ℕ) (t : Tunnel) → l < length (links_of book) → HasEmptyEntry book l t → ⊥
