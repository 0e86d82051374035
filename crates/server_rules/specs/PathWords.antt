-- What routers' latest reports say about paths that the state doesn't keep.
use Rattle.std.specs.Prelude.{◌≡◌, ◌==◌, ◌≤◌, ℕ, Bool, true, false, not, nat_le, ◌&&◌, List, ◌∷◌, length, Option, Some, None, is_some, option_map, if◌then◌else◌}
use Rattle.indexmap.specs.IndexMap.{get, IsUnique}
use Rattle.server_rules.specs.Keyed.{known_from}
use Rattle.server_rules.specs.declared.path_word.Operational.{Operational}
use Rattle.server_rules.specs.declared.path_word.Operational.TheVariants as state
use Rattle.server_rules.specs.declared.path_word.PathKey.{PathKey}
use Rattle.server_rules.specs.declared.path_word.PathWord.{PathWord}
use Rattle.server_rules.specs.declared.path_word.PathNoted.{PathNoted}
use Rattle.server_rules.specs.declared.path_word.PathHappening.{PathHappening}
use Rattle.server_rules.specs.declared.path_word.PathHappening.TheVariants.{Reported, PathRemoved, LspRemoved, Up, Synchronized, Expired}
use Rattle.server_rules.specs.declared.path_words.PathWords.{PathWords}

-- a state's rank; the best is 4
abbrev pub rank : Operational → ℕ
rank state.Active = 4
rank state.Up = 3
rank state.GoingUp = 2
rank state.GoingDown = 1
rank state.Down = 0

abbrev pub better_of : Operational → Operational → Operational
better_of a b = if nat_le (rank b) (rank a) then a else b

abbrev pub is_same_path : PathKey → PathKey → Bool
is_same_path a b = a.peer == b.peer && (a.plsp == b.plsp && a.lsp == b.lsp)

abbrev pub concerns : PathHappening → PathKey → Bool
concerns (Reported of _) path = is_same_path of path
concerns (PathRemoved of) path = is_same_path of path
concerns (LspRemoved of) path = of.peer == path.peer && of.plsp == path.plsp
concerns (Up peer) path = peer == path.peer
concerns (Synchronized peer) path = peer == path.peer
concerns (Expired peer) path = peer == path.peer

-- what was reported since its router's latest session came up
abbrev pub current : Option PathNoted → Option PathNoted
current None = None
current (Some n) = if n.is_current then Some n else None

-- What is noted about a path after a happening that concerns it. What wasn't reported since the router came up is
-- removed at its end of synchronization.
abbrev pub changed : PathHappening → Option PathNoted → Option PathNoted
changed (Reported _ word) n = Some (record { word = word; is_current = true })
changed (PathRemoved _) n = None
changed (LspRemoved _) n = None
changed (Up _) n = option_map {T = PathNoted} {U = PathNoted} (λ noted. record noted { is_current = false }) n
changed (Synchronized _) n = current n
changed (Expired _) n = None

-- what is noted about a path, given all that happened, the latest first
abbrev pub noted_from : List PathHappening → PathKey → Option PathNoted
noted_from past path = known_from concerns changed None past path

-- what a router's latest report says about a path, while the path stands
abbrev pub word_of : Option PathNoted → Option PathWord
word_of n = option_map (λ (noted : PathNoted). noted.word) n

-- ---- the table

abbrev pub noted_in : PathWords → PathKey → Option PathNoted
noted_in table path = get is_same_path table.paths path

-- the table has, in one entry for each path, what is known from all that happened, and has at most 16,384 entries
pub record Knows (table : PathWords) (past : List PathHappening) : Type 0 where
  pub few : length table.paths.entries ≤ 16384
  pub unique : IsUnique is_same_path table.paths
  pub known : (path : PathKey) → noted_in table path ≡ noted_from past path

abbrev pub IsSame : PathWords → PathWords → Type 0
IsSame old new = (past : List PathHappening) → Knows old past → Knows new past

-- the table knew all that happened, and now also knows this
abbrev pub Adds : PathWords → PathWords → PathHappening → Type 0
Adds old new what = (past : List PathHappening) → Knows old past → Knows new (what ∷ past)

-- the happening takes memory: it is the first report of a path
abbrev pub needs_room : PathWords → PathHappening → Bool
needs_room table (Reported of _) = not (is_some (noted_in table of))
needs_room table _ = false
