-- What a tunnel holds already, link by link.
use Rattle.std.specs.Prelude.{ℕ, Bool, List, map, filter, nat_lt, slice_index}
use Rattle.std.specs.List.{range_with_len}
use Rattle.lsp_base.specs.Shares.{priorities, share}
use Rattle.lsp_base.specs.declared.path.Path.{Path}
use Rattle.lsp_base.specs.declared.tunnel.Tunnel.{Tunnel}
use Rattle.te_snapshot.specs.declared.own.OwnShare.{OwnShare}

-- what the tunnel reserves on a link, at each of the eight priorities
abbrev pub own_share_on : List Path → Tunnel → ℕ → OwnShare
own_share_on paths t l = record { link = l; shares = map (share paths t l) (priorities 0 7) }

-- something is reserved; at the worst priority all paths count
abbrev pub is_something : OwnShare → Bool
is_something held = nat_lt 0 (slice_index held.shares 7)

-- what the tunnel reserves on each of this number of links, from 0 on, on which it reserves something
unfoldable pub own_shares : List Path → Tunnel → ℕ → List OwnShare
own_shares paths t count = filter is_something (map (own_share_on paths t) (range_with_len 0 count))
