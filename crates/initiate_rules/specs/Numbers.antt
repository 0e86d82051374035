-- The numbers of what the PCE asks a peer for (SRP-ID-number, RFC 8231 section 7.2).
use Rattle.std.specs.Prelude.{ℕ, ◌+◌, Bool, ◌||◌, nat_lt, if◌then◌else◌}
use Rattle.std.specs.List.{list_any}
use Rattle.lsp_base.specs.Lsps.{Lsps}
use Rattle.lsp_base.specs.Pending.{is_grant_as, is_removed_as}

-- 0 and 0xFFFFFFFF are reserved: after 0xFFFFFFFE comes 1
abbrev pub next_srp : ℕ → ℕ
next_srp last = if nat_lt last 0xFFFFFFFE then last + 1 else 1

-- a grant or a removal of the peer has the number
abbrev pub is_srp_used : Lsps → ℕ → ℕ → Bool
is_srp_used lsps peer srp = list_any (is_grant_as peer srp) lsps.paths || list_any (is_removed_as peer srp) lsps.records
