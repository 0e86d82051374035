use Rattle.std.proofs.Common.{◌≡◌, nat_le, true, length, inl, inr, option_map, refl, arith}
use Rattle.std.proofs.lemmas.Bool.{cases_Bool}
use Rattle.std.proofs.lemmas.Bool.Decides.{nat_tests}
use Rattle.std.proofs.lemmas.Str.{is_utf8-from_IsUtf8, IsUtf8-from_is_utf8}
use Rattle.std.specs.Str.{is_utf8}
use Rattle.server_talk.specs.Naming.{is_named}
use Rattle.server_talk.proofs.Requesting.{named_text}
use Rattle.server_talk.proofs.requests.named_in.Goals as goal

pub returns-in-Ok : goal.returns-in-Ok
returns-in-Ok c =
    let short : nat_le (length c.args.line.now) 4096 ≡ true = grind (arith, nat_tests) in
    named_text c.args.line.now c.in-Ok.text.now c.bare.result.now (option_map (λ text. text.now) c.if_named.result) short (is_utf8-from_IsUtf8 _ c.in-Ok.ensures.cases.1) c.in-Ok.ensures.cases.0 c.bare.ensures c.if_named.ensures

pub returns-in-Err : goal.returns-in-Err
unfolding is_named
returns-in-Err c =
    let short : nat_le (length c.args.line.now) 4096 ≡ true = grind (arith, nat_tests) in
    elim (cases_Bool (is_utf8 c.args.line.now)) [
      | inl valid ↦ absurd (c.in-Err.ensures.cases.0 (IsUtf8-from_is_utf8 _ valid))
      | inr broken ↦ rw (short, broken) refl
    ]
