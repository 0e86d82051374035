-- Who has a place, and who gave up its place and isn't gone yet.
use Rattle.std.specs.Prelude.{◌≡◌, ◌==◌, ℕ, ◌/◌, ◌≤◌, Bool, true, false, not, List, [], ◌∷◌, ◌++◌, length, map, filter, remove, Some, slice_get, if◌then◌else◌}
use Rattle.std.specs.List.{list_any}
use Rattle.server_rules.specs.declared.entrance.Taken.{Taken}
use Rattle.server_rules.specs.declared.entrance.Entrance.TheVariants as entrance
use Rattle.server_rules.specs.declared.places.Admission.{Admission}
use Rattle.server_rules.specs.declared.places.Admission.TheVariants.{Free, InsteadOf, Refused}
use Rattle.server_rules.specs.Places.{IsEntrance}

-- the connections that have a place, the oldest first, and the slots of those that gave their place up
pub record Placing : Type 0 where
  pub places : ℕ
  pub taken : List Taken
  pub leaving : List ℕ

-- the connection of this slot has a place
abbrev pub has_place : Placing → ℕ → Bool
has_place p slot = list_any (λ c. c.slot == slot) p.taken

-- a connection took a place
abbrev pub entered : ℕ → ℕ → Placing → Placing
entered slot address p = record p { taken = p.taken ++ (record { slot = slot; address = address; is_up = false }) ∷ [] }

abbrev pub marked : ℕ → Bool → Taken → Taken
marked slot is_up c = record { slot = c.slot; address = c.address; is_up = if c.slot == slot then is_up else c.is_up }

-- the session of the connection of this slot is marked as up, or as not up
abbrev pub all_marked : ℕ → Bool → Placing → Placing
all_marked slot is_up p = record p { taken = map (marked slot is_up) p.taken }

-- the connection of this slot is gone, and leaves nothing
abbrev pub without : ℕ → Placing → Placing
without slot p = record p { taken = filter (λ c. not (c.slot == slot)) p.taken; leaving = filter (λ s. not (s == slot)) p.leaving }

-- the connection of this slot, which was at this position, gave up its place
abbrev pub given_up : ℕ → ℕ → Placing → Placing
given_up at slot p = record p { taken = remove p.taken at; leaving = p.leaving ++ slot ∷ [] }

-- the connection at this position, which has this slot, gave up its place
abbrev pub GivesUpAt : ℕ → ℕ → Placing → Placing → Type 0
GivesUpAt at slot old new = (c : Taken) × (slice_get old.taken at ≡ Some c) × (c.slot ≡ slot) × (new ≡ given_up at slot old)

-- A new connection of the address finds a free place, or one that a connection gave up for it, or none, by the rule of
-- who has a place.
abbrev pub Admits : Placing → ℕ → Admission → Placing → Type 0
Admits old address Free new = IsEntrance old.taken address old.places entrance.Free × (new ≡ old)
Admits old address (InsteadOf slot) new = (at : ℕ) × IsEntrance old.taken address old.places (entrance.InsteadOf at) × GivesUpAt at slot old new
Admits old address Refused new = IsEntrance old.taken address old.places entrance.Refused × (new ≡ old)

-- the connection of this slot gave up its place to wait for its peer
abbrev pub parted : ℕ → Placing → Placing
parted slot p = record p { taken = filter (λ c. not (c.slot == slot)) p.taken; leaving = p.leaving ++ slot ∷ [] }

-- it had a place, and at most half as many as there are places already waited like this
abbrev pub Parts : ℕ → Placing → Placing → Type 0
Parts slot old new = (has_place old slot ≡ true) × (length old.leaving ≤ old.places / 2) × (new ≡ parted slot old)
