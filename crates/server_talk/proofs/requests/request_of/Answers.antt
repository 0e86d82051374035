use Rattle.std.proofs.Common.{◌≡◌, nat_le, true, length, inl, inr, refl, arith}
use Rattle.std.proofs.lemmas.Bool.{cases_Bool}
use Rattle.std.proofs.lemmas.Bool.Decides.{nat_tests}
use Rattle.std.proofs.lemmas.Str.{is_utf8-from_IsUtf8, IsUtf8-from_is_utf8}
use Rattle.std.specs.Str.{is_utf8}
use Rattle.server_talk.specs.Requests.{request_of}
use Rattle.server_talk.proofs.requests.request_of.Goals as goal

pub returns-in-Ok-clause-request : goal.returns-in-Ok-clause-request
unfolding request_of
returns-in-Ok-clause-request c =
    let short : nat_le (length c.args.line.now) 4096 ≡ true = grind (arith, nat_tests) in
    let valid : is_utf8 c.args.line.now ≡ true = is_utf8-from_IsUtf8 _ c.in-Ok.ensures.cases.1 in
    rw (short, valid, ← c.in-Ok.ensures.cases.0, ← c.bare.ensures) c.request_in.ensures.request

pub returns-in-Ok-clause-good : goal.returns-in-Ok-clause-good
unfolding request_of
returns-in-Ok-clause-good c =
    let short : nat_le (length c.args.line.now) 4096 ≡ true = grind (arith, nat_tests) in
    let valid : is_utf8 c.args.line.now ≡ true = is_utf8-from_IsUtf8 _ c.in-Ok.ensures.cases.1 in
    rw (short, valid, ← c.in-Ok.ensures.cases.0, ← c.bare.ensures) c.request_in.ensures.good

pub returns-in-Err-clause-request : goal.returns-in-Err-clause-request
unfolding request_of
returns-in-Err-clause-request c =
    let short : nat_le (length c.args.line.now) 4096 ≡ true = grind (arith, nat_tests) in
    elim (cases_Bool (is_utf8 c.args.line.now)) [
      | inl valid ↦ absurd (c.in-Err.ensures.cases.0 (IsUtf8-from_is_utf8 _ valid))
      | inr broken ↦ rw (short, broken) refl
    ]
