-- What is known about each key of a table, given all that happened.
use Rattle.std.specs.Prelude.{Bool, List, [], ◌∷◌, if◌then◌else◌}

module _ {Happening Key Known : Type 0} (concerns : Happening → Key → Bool) (change : Happening → Known → Known) (nothing : Known) where
  -- what is known about a key after one more happening
  abbrev pub after : Happening → Key → Known → Known
  after h key known = if concerns h key then change h known else known

  -- what is known about a key, given all that happened, the latest first
  abbrev pub known_from : List Happening → Key → Known
  known_from [] key = nothing
  known_from (h ∷ past) key = after h key (known_from past key)
