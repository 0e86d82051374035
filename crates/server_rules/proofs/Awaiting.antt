-- Routers that a server waits for.
use Rattle.std.proofs.Common.{◌≡◌, ℕ, Bool, List, [], ◌∷◌, ◌&&◌, map, refl, ap}
use Rattle.std.specs.List.{list_all}
use Rattle.server_rules.specs.declared.settling.Awaited.{Awaited}
use Rattle.server_rules.specs.Settled.{awaited_after, is_in_sync, noted}

-- one more happening
pub noted_more : (named : List ℕ) (past : List (ℕ × Bool)) (address : ℕ) (came : Bool) → map (noted address came) (map (awaited_after past) named) ≡ map (awaited_after ((address, came) ∷ past)) named
noted_more [] past address came = refl
noted_more (router ∷ named) past address came = ap (λ (rest : List Awaited). awaited_after ((address, came) ∷ past) router ∷ rest) (noted_more named past address came)

pub all_in_sync : (named : List ℕ) (past : List (ℕ × Bool)) → list_all (λ (router : Awaited). router.is_in_sync) (map (awaited_after past) named) ≡ list_all (is_in_sync past) named
all_in_sync [] past = refl
all_in_sync (router ∷ named) past = ap (λ (rest : Bool). is_in_sync past router && rest) (all_in_sync named past)
