-- The places from a node on are its own and those that follow.
use Rattle.std.proofs.Common.{◌≡◌, ℕ, zero, suc, ◌+◌, List, [], ◌∷◌, drop, Some, slice_get, arith, ap}
use Rattle.te_base.specs.declared.network.Node.{Node}
use Rattle.te_words.specs.Places.{places_json, with_place}

pub next_place : (nodes : List Node) (n : ℕ) (node : Node) → slice_get nodes n ≡ Some node → places_json (drop n nodes) ≡ with_place node.name node.place (places_json (drop (n + 1) nodes))
next_place [] n node is = absurd cc
next_place (m ∷ nodes) zero node is = (let same : m ≡ node = cc in ap (λ (k : Node). with_place k.name k.place (places_json nodes)) same)
next_place (m ∷ nodes) (suc n) node is = let next : suc n + 1 ≡ suc (n + 1) = omega arith in rw next (next_place nodes n node is)
