-- Bounds as one number each.
use Rattle.std.specs.Prelude.{ℕ, ◌+◌, ◌^◌, nat_lt, if◌then◌else◌, Option, Some, None}

-- the cost that no path may reach: it breaks the bound, or is above the cost of any path
abbrev pub limit_of : Option ℕ → ℕ
limit_of None = 2 ^ 31
limit_of (Some b) = if nat_lt b (2 ^ 31) then b + 1 else 2 ^ 31

-- the most links that a path may have
abbrev pub hops_of : Option ℕ → ℕ
hops_of None = 64
hops_of (Some h) = if nat_lt h 64 then h else 64
