-- What a base holds, and the room that was made in it.
use Rattle.std.specs.Prelude.{ℕ, ◌+◌, ◌≤◌, ◌++◌, length}
use Rattle.lsp_base.specs.Lsps.{Lsps, without}
use Rattle.lsp_base.specs.declared.effect.Effect.{Effect}

pub record Rooms : Type 0 where
  pub content : Lsps
  -- how many paths there is room for in all; how many more records there is room for
  pub path_room : ℕ
  pub record_room : ℕ

-- there is room for the effect's paths and records
pub record HasRoom (b : Rooms) (e : Effect) : Type 0 where
  pub for_paths : length b.content.paths + length e.change.added ≤ b.path_room
  pub for_records : length e.records ≤ b.record_room

-- there are at most 16,384 paths after the effect
abbrev pub IsWithinLimit : Lsps → Effect → Type 0
IsWithinLimit lsps e = length (without lsps.paths e.change.dropped ++ e.change.added) ≤ 16384
