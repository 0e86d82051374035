-- A path that is looked for on a snapshot, or what prevents it.
use Rattle.std.specs.Prelude.{ℕ, ℤ, Bool, not, List, [], ◌∷◌, ◌++◌, find, option_map, Option, Some, None}
use Rattle.lsp_words.specs.declared.object.Colours.{Colours}
use Rattle.lsp_base.specs.Shares.{priorities}
use Rattle.lsp_base.specs.declared.lsp.Constraints.{Constraints}
use Rattle.lsp_base.specs.declared.lsp.OtherBounds.{OtherBounds}
use Rattle.te_snapshot.specs.Network.{NetworkState}
use Rattle.te_snapshot.specs.Room.{has_room_at}
use Rattle.path_finder.specs.Answers.{IsAnswer, IsRefused}
use Rattle.path_looks.specs.declared.answer.Obstacle.{Obstacle}
use Rattle.path_looks.specs.declared.answer.Obstacle.TheVariants as obstacle
use Rattle.path_looks.specs.declared.answer.PathAnswer.{PathAnswer}
use Rattle.path_looks.specs.declared.answer.PathAnswer.TheVariants.{Path, Blocked, NoWay}
use Rattle.path_looks.specs.declared.full.FullLink.{FullLink}

abbrev pub any_colours : Colours
any_colours = record { exclude_any = 0; include_any = 0; include_all = 0 }

abbrev pub no_bounds : OtherBounds
no_bounds = record { igp = None; te = None }

-- the same constraints without what an obstacle names; without bandwidth a path finds room on each link
abbrev pub relaxed : Obstacle → Constraints → Constraints
relaxed obstacle.Bandwidth c = record c { bandwidth = 0 }
relaxed obstacle.Colours c = record c { colours = any_colours }
relaxed obstacle.Bounds c = record c { bound = None; hop_bound = None; other_bounds = no_bounds }
relaxed obstacle.Several c = record c { bandwidth = 0; colours = any_colours; bound = None; hop_bound = None; other_bounds = no_bounds }

-- There is still no path if any one of the obstacles before this one is removed: bandwidth, colours, bounds, several.
abbrev pub RefusesBefore : NetworkState → Constraints → Obstacle → Type 0
RefusesBefore s c obstacle.Bandwidth = Unit {0}
RefusesBefore s c obstacle.Colours = IsRefused s (relaxed obstacle.Bandwidth c) []
RefusesBefore s c obstacle.Bounds = IsRefused s (relaxed obstacle.Bandwidth c) [] × IsRefused s (relaxed obstacle.Colours c) []
RefusesBefore s c obstacle.Several = IsRefused s (relaxed obstacle.Bandwidth c) [] × IsRefused s (relaxed obstacle.Colours c) [] × IsRefused s (relaxed obstacle.Bounds c) []

-- For a tunnel that holds nothing yet: an admissible path of least cost; or there is none, and this is one without the
-- first obstacle whose removal helps; or there is none whatever its bandwidth, colours and bounds.
abbrev pub IsPathAnswer : NetworkState → Constraints → PathAnswer → Type 0
IsPathAnswer s c (Path found) = IsAnswer s c [] found
IsPathAnswer s c (Blocked by found) = IsRefused s c [] × RefusesBefore s c by × IsAnswer s (relaxed by c) [] found
IsPathAnswer s c NoWay = IsRefused s c [] × IsRefused s (relaxed obstacle.Several c) []

-- the bandwidth doesn't fit on the link at the priority
abbrev pub is_full_at : List (List ℤ) → Constraints → ℕ → ℕ → Bool
is_full_at unreserved c l p = not (has_room_at unreserved [] c.bandwidth l p)

abbrev pub full_link : ℕ → ℕ → FullLink
full_link l p = record { link = l; priority = p }

-- the best of the priorities from holding to setup at which the bandwidth doesn't fit on the link
abbrev pub first_full : List (List ℤ) → Constraints → ℕ → Option FullLink
first_full unreserved c l = option_map (full_link l) (find (is_full_at unreserved c l) (priorities (c.priorities).hold (c.priorities).setup))

abbrev pub one_or_none : Option FullLink → List FullLink
one_or_none None = []
one_or_none (Some f) = f ∷ []

-- those of the links on which the bandwidth doesn't fit, in their order
abbrev pub full_links : List (List ℤ) → Constraints → List ℕ → List FullLink
full_links unreserved c [] = []
full_links unreserved c (l ∷ ls) = one_or_none (first_full unreserved c l) ++ full_links unreserved c ls
