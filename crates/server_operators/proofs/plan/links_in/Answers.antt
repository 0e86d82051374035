use Rattle.std.proofs.Common.{◌≡◌, true, inl, inr}
use Rattle.std.proofs.lemmas.Bool.{cases_Bool}
use Rattle.std.proofs.lemmas.Str.{is_utf8-from_IsUtf8, IsUtf8-from_is_utf8}
use Rattle.std.specs.Str.{is_utf8}
use Rattle.server_operators.proofs.plan.links_in.Goals as goal

pub returns-in-Err : goal.returns-in-Err
returns-in-Err c =
    elim (cases_Bool (is_utf8 c.args.bytes.now)) [
      | inl valid ↦ absurd (c.in-Err.ensures.cases.0 (IsUtf8-from_is_utf8 _ valid))
      | inr broken ↦ rw broken
    ]

pub returns-in-Ok : goal.returns-in-Ok
returns-in-Ok c =
    let valid : is_utf8 c.args.bytes.now ≡ true = is_utf8-from_IsUtf8 _ c.in-Ok.ensures.cases.1 in
    rw (valid, ← c.in-Ok.ensures.cases.0) c.links_of.ensures
