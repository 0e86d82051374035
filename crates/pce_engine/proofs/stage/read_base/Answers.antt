use Rattle.std.proofs.Common.{◌≡◌, true, inl, inr}
use Rattle.std.proofs.lemmas.Bool.{cases_Bool}
use Rattle.std.proofs.lemmas.Str.{is_utf8-from_IsUtf8, IsUtf8-from_is_utf8}
use Rattle.std.specs.Str.{is_utf8}
use Rattle.pce_engine.specs.Script.{base_in}
use Rattle.pce_engine.proofs.stage.read_base.Goals as goal

pub returns-in-Err : goal.returns-in-Err
unfolding base_in
returns-in-Err c =
    elim (cases_Bool (is_utf8 c.args.header.now)) [
      | inl valid ↦ absurd (c.in-Err.ensures.cases.0 (IsUtf8-from_is_utf8 _ valid))
      | inr broken ↦ rw broken
    ]

pub returns-in-Ok : goal.returns-in-Ok
unfolding base_in
returns-in-Ok c =
    let valid : is_utf8 c.args.header.now ≡ true = is_utf8-from_IsUtf8 _ c.in-Ok.ensures.cases.1 in
    rw (valid, ← c.in-Ok.ensures.cases.0) c.read.ensures
