use Rattle.std.proofs.Common.{◌≡◌, true, inl, inr}
use Rattle.std.proofs.lemmas.Bool.{cases_Bool}
use Rattle.std.proofs.lemmas.Str.{is_utf8-from_IsUtf8, IsUtf8-from_is_utf8}
use Rattle.std.specs.Str.{is_utf8}
use Rattle.script_lines.specs.Orders.{order_of}
use Rattle.script_lines.proofs.orders.order_of.Goals as goal

pub returns-in-Err : goal.returns-in-Err
unfolding order_of
returns-in-Err c =
    elim (cases_Bool (is_utf8 c.args.line.now)) [
      | inl valid ↦ absurd (c.in-Err.ensures.cases.0 (IsUtf8-from_is_utf8 _ valid))
      | inr broken ↦ rw broken
    ]

pub returns-in-Ok : goal.returns-in-Ok
unfolding order_of
returns-in-Ok c =
    let valid : is_utf8 c.args.line.now ≡ true = is_utf8-from_IsUtf8 _ c.in-Ok.ensures.cases.1 in
    rw (valid, ← c.in-Ok.ensures.cases.0) c.order_in.ensures
