-- What is known of LSPs, and the lists after a change.
use Rattle.std.specs.Prelude.{ℕ, ◌+◌, ◌≤◌, Bool, false, ◌==◌, ◌&&◌, not, List, [], ◌∷◌, ◌++◌, length, map, filter, find, option_map, Option, Some, None, if◌then◌else◌, cond}
use Rattle.std.specs.List.{list_any, slice_rotate_right}
use Rattle.lsp_base.specs.Same.{same_path}
use Rattle.lsp_base.specs.declared.path.Path.{Path}
use Rattle.lsp_base.specs.declared.lsp.Lsp.{Lsp}
use Rattle.lsp_base.specs.declared.effect.Record.{Record}
use Rattle.lsp_base.specs.declared.effect.RecordChange.{RecordChange}
use Rattle.lsp_base.specs.declared.effect.Effect.{Effect}

-- the paths and the records of all LSPs
pub record Lsps : Type 0 where
  pub paths : List Path
  pub records : List Record

abbrev pub no_lsps : Lsps
no_lsps = record { paths = []; records = [] }

abbrev pub is_record_of : ℕ → ℕ → Record → Bool
is_record_of peer plsp r = r.peer == peer && r.plsp == plsp

-- what is known of an LSP
abbrev pub lsp_at : List Record → ℕ → ℕ → Option Lsp
lsp_at records peer plsp = option_map (λ r. r.lsp) (find (is_record_of peer plsp) records)

-- there is at most one record of each LSP
abbrev pub AreDistinct : List Record → Type 0
AreDistinct records = (peer plsp : ℕ) → length (filter (is_record_of peer plsp) records) ≤ 1

-- the path is one of the LSP's: reported, or a grant that is bound to it
abbrev pub is_path_of : ℕ → ℕ → Path → Bool
is_path_of peer plsp x = x.peer == peer && x.plsp == plsp

-- ---- effects

abbrev pub effect_of : List Path → List Path → List RecordChange → Bool → Effect
effect_of dropped added records wants = record { change = record { dropped = dropped; added = added }; records = records; wants_path = wants }

abbrev pub no_effect : Effect
no_effect = effect_of [] [] [] false

-- ---- the lists after an effect

-- the list with its last element before the others
abbrev pub last_in_front : {X : Type 0} → List X → List X
last_in_front xs = slice_rotate_right xs 1

-- the list without the first element that passes the test: the last one takes its place
abbrev pub without_first : {X : Type 0} → (X → Bool) → List X → List X
without_first test [] = []
without_first test (x ∷ xs) = cond (test x) (last_in_front xs) (x ∷ without_first test xs)

-- the list without the first path that is this one
abbrev pub without_path : Path → List Path → List Path
without_path d paths = without_first (λ x. same_path x d) paths

-- the list without each of these paths
abbrev pub without : List Path → List Path → List Path
without paths [] = paths
without paths (d ∷ ds) = without (without_path d paths) ds

-- how often a path is among others
abbrev pub occurrences : Path → List Path → ℕ
occurrences x [] = 0
occurrences x (y ∷ ys) = (if same_path y x then 1 else 0) + occurrences x ys

-- the paths have each of the dropped ones, as often as it is dropped
abbrev pub HasAll : List Path → List Path → Type 0
HasAll paths dropped = (x : Path) → occurrences x dropped ≤ occurrences x paths

-- the records with this one set: in its place if the LSP has one, else as the last
abbrev pub put : List Record → ℕ → ℕ → Lsp → List Record
put [] peer plsp lsp = record { peer = peer; plsp = plsp; lsp = lsp } ∷ []
put (r ∷ rs) peer plsp lsp = cond (is_record_of peer plsp r) (record { peer = peer; plsp = plsp; lsp = lsp } ∷ rs) (r ∷ put rs peer plsp lsp)

-- the records without the LSP's
abbrev pub taken_away : List Record → ℕ → ℕ → List Record
taken_away records peer plsp = without_first (is_record_of peer plsp) records

abbrev pub set_record : ℕ → List Record → ℕ → Option Lsp → List Record
set_record peer records plsp None = taken_away records peer plsp
set_record peer records plsp (Some lsp) = put records peer plsp lsp

abbrev pub set_records : ℕ → List Record → List RecordChange → List Record
set_records peer records [] = records
set_records peer records (c ∷ cs) = set_records peer (set_record peer records c.plsp c.lsp) cs

-- the LSPs after an effect on those of a peer
unfoldable pub changed : Lsps → ℕ → Effect → Lsps
changed lsps peer effect = record {
  paths = without lsps.paths effect.change.dropped ++ effect.change.added;
  records = set_records peer lsps.records effect.records;
}

-- a path of the peer is stale from now on
abbrev pub made_stale : ℕ → Path → Path
made_stale peer x = if x.peer == peer then record x { fresh = false } else x

-- the LSPs with the peer's paths made stale
unfoldable pub with_stale : Lsps → ℕ → Lsps
with_stale lsps peer = record lsps { paths = map (made_stale peer) lsps.paths }

-- ---- paths that go, and the records that then have none

abbrev pub taking : Record → RecordChange
taking r = record { plsp = r.plsp; lsp = None }

-- the record is of the peer, and each path of it passes the test
abbrev pub has_none_left : (Path → Bool) → ℕ → List Path → Record → Bool
has_none_left test peer paths r = r.peer == peer && not (list_any (λ x. not (test x) && is_path_of peer r.plsp x) paths)

-- the peer's records of which no path stays if those that pass the test go
abbrev pub ended_records : Lsps → ℕ → (Path → Bool) → List RecordChange
ended_records lsps peer test = map taking (filter (has_none_left test peer lsps.paths) lsps.records)

-- the LSP's record is removed if no path of it stays when those that pass the test go
abbrev pub ended_record : List Path → ℕ → ℕ → (Path → Bool) → List RecordChange
ended_record paths peer plsp test = if list_any (λ x. not (test x) && is_path_of peer plsp x) paths then [] else record { plsp = plsp; lsp = None } ∷ []

-- the effect that drops the paths that pass the test
unfoldable pub dropping : Lsps → ℕ → (Path → Bool) → Effect
dropping lsps peer test = effect_of (filter test lsps.paths) [] (ended_records lsps peer test) false
