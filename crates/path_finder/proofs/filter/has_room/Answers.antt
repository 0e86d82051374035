use Rattle.std.proofs.Common.{◌≡◌, ◌+◌, ◌-◌, ℕ, Bool, false, ap, sym, ◌∙◌, arith}
use Rattle.std.proofs.lemmas.Grind.{common_steps}
use Rattle.te_snapshot.specs.Room.{has_room_at}
use Rattle.path_finder.proofs.Fees.{all_hold, one_fails}
use Rattle.path_finder.proofs.filter.has_room.Goals as goal

pub returns-then-not-has_room_at : goal.returns-then-not-has_room_at
returns-then-not-has_room_at c =
    let q = c.args.query.now in
    let f : ℕ → Bool = has_room_at q.unreserved.now q.own.now q.constraints.now.bandwidth c.args.link in
    let hold = q.constraints.now.priorities.hold in
    let setup = q.constraints.now.priorities.setup in
    let p = c.loop-priority.priority in
    let at : c.capped.result ≡ p = omega arith in
    let fails : c.has_room_at.result ≡ false = grind (arith, common_steps) in
    sym (one_fails f hold (setup + 1 - hold) p (omega arith) (omega arith) (ap f (sym at) ∙ sym c.has_room_at.ensures ∙ fails))

pub returns : goal.returns
returns c =
    let q = c.args.query.now in
    let f : ℕ → Bool = has_room_at q.unreserved.now q.own.now q.constraints.now.bandwidth c.args.link in
    let hold = q.constraints.now.priorities.hold in
    let setup = q.constraints.now.priorities.setup in
    sym (all_hold f hold (setup + 1 - hold) (λ p low high. c.loop-priority.invariant p (omega arith) (omega arith)))
