-- What is held on links.
use Rattle.std.specs.Prelude.{ℕ, Bool, List, Option, is_some, length}
use Rattle.lsp_base.specs.declared.tunnel.Tunnel.{Tunnel}
use Rattle.bandwidth_book.specs.Reservation.{Reservation}
use Rattle.bandwidth_book.specs.declared.ledgers.Ledgers.{Ledgers}
use Rattle.bandwidth_book.specs.Holdings.{Holdings}
use Rattle.bandwidth_book.specs.Entries.{held_in, promised_in}
use Rattle.bandwidth_book.specs.Tunnels.{entry_of}

-- how many links there are
abbrev pub count : Ledgers → ℕ
count ledgers = length ledgers.sums.items

-- the tunnel's entry on a link
abbrev pub entry_at : Ledgers → ℕ → Tunnel → Option Holdings
entry_at ledgers l t = entry_of ledgers.tunnels.entries l t

-- what the tunnel's paths hold on a link
abbrev pub held_at : Ledgers → ℕ → Tunnel → List Reservation
held_at ledgers l t = held_in (entry_at ledgers l t)

-- whether the tunnel has an entry on a link
abbrev pub has_entry_at : Ledgers → ℕ → Tunnel → Bool
has_entry_at ledgers l t = is_some (entry_at ledgers l t)

-- how many more of the tunnel's paths it has promised room for
abbrev pub promised_on : Ledgers → ℕ → Tunnel → ℕ
promised_on ledgers l t = promised_in (entry_at ledgers l t)
