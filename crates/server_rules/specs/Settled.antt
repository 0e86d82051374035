-- When a server that has just started may grant paths.
use Rattle.std.specs.Prelude.{◌≡◌, ◌==◌, ℕ, Bool, false, not, ◌&&◌, ◌||◌, List, [], ◌∷◌, length, map, nat_le, if◌then◌else◌}
use Rattle.std.specs.List.{list_all}
use Rattle.server_rules.specs.declared.settling.Awaited.{Awaited}
use Rattle.server_rules.specs.declared.settling.Settling.{Settling}

-- a router is in sync after these came in sync (true) or went down (false), the last one first
abbrev pub is_in_sync : List (ℕ × Bool) → ℕ → Bool
is_in_sync [] router = false
is_in_sync (last ∷ past) router = if router == last.0 then last.1 else is_in_sync past router

-- it may after this time has passed since its start, or, if routers were named, while all of them are in sync
abbrev pub has_settled : List ℕ → ℕ → List (ℕ × Bool) → ℕ → Bool
has_settled named until_ms past now_ms = nat_le until_ms now_ms || (not (length named == 0) && list_all (is_in_sync past) named)

abbrev pub awaited_after : List (ℕ × Bool) → ℕ → Awaited
awaited_after past router = record { address = router; is_in_sync = is_in_sync past router }

-- the value has, for each router that was named, whether it is in sync after all that
abbrev pub Awaits : Settling → List ℕ → ℕ → List (ℕ × Bool) → Type 0
Awaits settling named until_ms past = (settling.until_ms ≡ until_ms) × (settling.routers.items ≡ map (awaited_after past) named)

-- what is noted about a router after one came in sync or went down
abbrev pub noted : ℕ → Bool → Awaited → Awaited
noted address is_in_sync router = record { address = router.address; is_in_sync = if router.address == address then is_in_sync else router.is_in_sync }
