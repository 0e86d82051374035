-- What a line of a file does to what is known of a run.
use Rattle.std.specs.Prelude.{⊤, ℕ, ◌≡◌, Bool, true, false, List, Option, Some, None, Ok}
use Rattle.std.specs.Str.{bytes_eq}
use Rattle.std.specs.String.{string_bytes}
use Rattle.te_base.specs.Ted.{Ted}
use Rattle.te_base.specs.LinkText.{base_of}
use Rattle.history_core.specs.Histories.{Content, nothing_happened}
use Rattle.base_lines.specs.Items.{nothing_read}
use Rattle.journal_files.specs.Order.{has_steps, kind_of, after}
use Rattle.journal_files.specs.declared.order.Kind.{Kind}
use Rattle.journal_files.specs.declared.order.Kind.TheVariants as kinds
use Rattle.journal_replay.specs.Replays.{point_of, Takes}
use Rattle.journal_replay.specs.declared.taken.Taken.TheVariants.{AsRecorded}
use Rattle.replay_commands.specs.Bases.{Awaits, TakesLine, Ends}
use Rattle.replay_commands.specs.Until.{is_past}
use Rattle.replay_commands.specs.declared.base.FileBase.{FileBase}
use Rattle.replay_commands.specs.declared.base.FileBase.TheVariants as bases
use Rattle.replay_commands.specs.declared.run.After.{After}
use Rattle.replay_commands.specs.declared.run.After.TheVariants.{More, Enough}
use Rattle.replay_commands.specs.declared.run.Run.{Run}
use Rattle.replay_commands.specs.declared.until.Until.{Until}

-- the link text of the first file ends: its network is known, and of it nothing was reported, or its base comes
abbrev pub BeginsWith : (is_start : Bool) → Ted → Option Content → Run → Type 0
BeginsWith true te known to = to.database ≡ Some (nothing_happened te)
BeginsWith false te known to = (to.database ≡ known) × (to.base ≡ bases.First te nothing_read)

pub record BeginsNetwork (from to : Run) : Type 0 where
  pub te : Ted
  pub read : base_of (string_bytes from.text) ≡ Ok te
  pub text : to.known ≡ from.text
  pub first : to.first ≡ to.order.next
  pub begins : BeginsWith (has_steps to.order.part) te from.database to

-- the base of what was replayed comes, unless the file begins with the steps of the run's start
abbrev pub AwaitsIn : (is_start : Bool) → Content → FileBase → Type 0
AwaitsIn true d base = ⊤
AwaitsIn false d base = Awaits d base

-- a link text ends: the first, or one that has to be the same
abbrev pub EndsText : Option Content → Run → Run → Type 0
EndsText None from to = BeginsNetwork from to
EndsText (Some d) from to = (bytes_eq (string_bytes from.text) (string_bytes from.known) ≡ true) × (to.database ≡ Some d) × AwaitsIn (has_steps to.order.part) d to.base

-- a base ends: the replay begins there if it is the first file's, else what was replayed stays
abbrev pub begun_or : Option Content → Option Content → Option Content
begun_or None known = known
begun_or (Some d) known = Some d

pub record EndsBase (from : Run) (base : FileBase) (to : Run) : Type 0 where
  pub begun : Option Content
  pub ends : Ends base from.first begun
  pub is : to.database ≡ begun_or begun from.database

-- a step is replayed, and its reply is as recorded
abbrev pub Replays : Option Content → List ℕ → Option Content → Type 0
Replays (Some d) line (Some e) = Takes (point_of d) line AsRecorded (point_of e)
Replays (Some d) line None = ⊥
Replays None line to = ⊥

-- what is known after a line of this kind
abbrev pub Knows : Kind → Run → List ℕ → Run → Type 0
Knows kinds.Head from line to = to.database ≡ from.database
Knows kinds.Text from line to = to.database ≡ from.database
Knows kinds.Mark from line to = EndsText from.database from to
Knows kinds.Base from line to = (to.database ≡ from.database) × TakesLine from.base line true to.base
Knows kinds.End from line to = (base : FileBase) × TakesLine from.base line true base × EndsBase from base to
Knows kinds.Moment from line to = to.database ≡ from.database
Knows kinds.Step from line to = Replays from.database line to.database
Knows kinds.Bad from line to = ⊥

-- the next line is past what is asked for, and nothing has changed; or it isn't, and stands where it may
abbrev pub Goes : Until → Run → List ℕ → After → Run → Type 0
Goes until from line Enough to = (is_past until from.order line ≡ true) × (to ≡ from)
Goes until from line More to = (is_past until from.order line ≡ false) × (to.order ≡ after from.order line) × Knows (kind_of from.order line) from line to
