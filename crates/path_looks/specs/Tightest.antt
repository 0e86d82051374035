-- The link of a path on which least is left.
use Rattle.std.specs.Prelude.{ℕ, ℤ, int_le, List, Option, Some, None, if◌then◌else◌, fold}
use Rattle.lsp_base.specs.declared.lsp.Constraints.{Constraints}
use Rattle.te_snapshot.specs.Room.{left}
use Rattle.path_looks.specs.declared.link_room.LinkRoom.{LinkRoom}

-- what is left of the link at the setup priority
abbrev pub room_on : List (List ℤ) → Constraints → ℕ → LinkRoom
room_on unreserved c l = record { link = l; left = left unreserved l (c.priorities).setup }

-- the one of two links on which less is left; the first if both have the same
abbrev pub tighter : Option LinkRoom → LinkRoom → Option LinkRoom
tighter None other = Some other
tighter (Some best) other = if int_le best.left other.left then Some best else Some other

-- the tightest of all links of a path
abbrev pub tightest : List (List ℤ) → Constraints → List ℕ → Option LinkRoom
tightest unreserved c links = fold (λ best l. tighter best (room_on unreserved c l)) None links
