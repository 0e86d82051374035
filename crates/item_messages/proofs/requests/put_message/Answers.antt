use Rattle.std.proofs.Common.{◌≡◌, ℕ, ◌+◌, ◌^◌, ◌<◌, ◌≤◌, Bool, false, List, ◌++◌, length, Result, Ok, Err, IfErr, rules, ap, ◌∙◌, arith, length-append}
use Rattle.pcep_messages.specs.Spelling.{objects_spelled}
use Rattle.pcep_objects.specs.declared.fault.WriteFault.{WriteFault}
use Rattle.pcep_objects.specs.declared.fault.WriteFault.TheVariants.{TooLong}
use Rattle.item_messages.specs.Framing.{begun}
use Rattle.item_messages.specs.Requests.{request_objects, request_fits}
use Rattle.item_messages.proofs.RequestsAgain.{request_short}
use Rattle.item_messages.proofs.requests.put_message.Goals as goal

-- the message is never too long
never : {A : Type 0} (r : Result A WriteFault) (start : ℕ) (mid : List ℕ) (fits : Bool) → IfErr r (λ e. (e ≡ TooLong) × (start + 2 ^ 16 ≤ length mid)) → length mid < start + 2 ^ 16 → IfErr r (λ e. e ≡ TooLong → fits ≡ false)
never (Ok x) start mid fits h small = tt
never (Err e) start mid fits h small = λ long. absurd (omega (arith, h.1, small))

pub returns-clause-too_long : goal.returns-clause-too_long
returns-clause-too_long c =
    let old = c.args.out.now.items in
    let body = objects_spelled (request_objects c.args.request.now) in
    let mid = c.put_objects.new.out.items in
    let start : c.len-start.result ≡ length old = search rules in
    let whole : mid ≡ (old ++ begun 3) ++ body = c.in_ok-put_objects.ensures.written ∙ ap (λ (xs : List ℕ). xs ++ body) c.in_ok-start_message.ensures.begun in
    let first : length (old ++ begun 3) ≡ length old + 4 = length-append old (begun 3) in
    let long : length mid ≡ length (old ++ begun 3) + length body = ap length whole ∙ length-append (old ++ begun 3) body in
    let small : length mid < c.len-start.result + 2 ^ 16 = omega (arith, start, first, long, request_short c.args.request.now) in
    never c.end_message.result c.len-start.result mid (request_fits c.args.request.now) c.end_message.ensures.too_long small
