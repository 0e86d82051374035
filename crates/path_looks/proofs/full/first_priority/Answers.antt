use Rattle.std.proofs.Common.{◌≡◌, ◌+◌, ◌-◌, ℕ, Bool, true, sym, ◌∙◌, arith}
use Rattle.std.proofs.lemmas.Grind.{common_steps}
use Rattle.path_looks.specs.Paths.{is_full_at}
use Rattle.path_looks.proofs.Firsts.{first_of, none_of}
use Rattle.path_looks.proofs.full.first_priority.Goals as goal

pub returns-then-is_full_at : goal.returns-then-is_full_at
returns-then-is_full_at c =
    let f : ℕ → Bool = is_full_at c.args.snapshot.now.unreserved c.args.wanted.now c.args.link in
    let hold = c.args.wanted.now.priorities.hold in
    let setup = c.args.wanted.now.priorities.setup in
    let p = c.loop-priority.priority in
    let full : c.is_full_at.result ≡ true = grind (arith, common_steps) in
    sym (first_of f hold (setup + 1 - hold) p (omega arith) (omega arith) (λ q from to. c.loop-priority.invariant q (omega arith) to) (sym c.is_full_at.ensures ∙ full))

pub returns : goal.returns
returns c =
    let f : ℕ → Bool = is_full_at c.args.snapshot.now.unreserved c.args.wanted.now c.args.link in
    let hold = c.args.wanted.now.priorities.hold in
    let setup = c.args.wanted.now.priorities.setup in
    sym (none_of f hold (setup + 1 - hold) (λ q from to. c.loop-priority.invariant q (omega arith) (omega arith)))
