use Rattle.std.proofs.Common.{Option, None, Ok, false, refl, ap, subst, get_or, List, ℕ, ◌≡◌, ◌==◌, ◌++◌, arith, rules}
use Rattle.std.proofs.lemmas.Bool.Decides.{nat_tests}
use Rattle.script_lines.specs.LineAnswer.{line_answer}
use Rattle.pce_engine.specs.declared.stage.Stage.{Stage}
use Rattle.std.proofs.lemmas.Result.{err_from_is_err_and}
use Rattle.pce_engine.specs.Machine.{Machine, Halts, MayTake, took}
use Rattle.pce_engine.specs.MachineOf.{machine_of}
use Rattle.pce_engine.proofs.Unbroken.{stretch, grown, goes_past, breaks_past, lacks, unbroken_more, fed_last}
use Rattle.pce_engine.proofs.script.feed.Goals as goal
use Rattle.pce_engine.proofs.script.feed.Goals.{then-byte-eq10+in_ok-add+in_ok-take_break, else-byte-eq10}

pub loop-place-init : goal.loop-place-init
loop-place-init c = record {
  within = omega arith;
  unbroken = λ j from below. absurd (omega (arith, below));
  leads = (λ _. None, (refl, tt));
  number = omega arith;
}

pub returns-in_err-add-clause-fed : goal.returns-in_err-add-clause-fed
returns-in_err-add-clause-fed c =
    let p = err_from_is_err_and c.from_residual.result c.from_residual.ensures.1 in
    rw (p.1, p.2, c.in_err-add.ensures.err) (lacks c.args.bytes.now c.loop-place.start c.args.out.now.items (machine_of c.args.script.now) c.loop-place.out.items (machine_of c.loop-place.script) c.loop-place.invariant.leads)

pub returns-in_err-take_break-clause-fed : goal.returns-in_err-take_break-clause-fed
returns-in_err-take_break-clause-fed c =
    let p = err_from_is_err_and c.from_residual-in_err-take_break.result c.from_residual-in_err-take_break.ensures.1 in
    let bytes = c.args.bytes.now in
    let line = stretch bytes c.loop-place.start c.loop-place.place in
    let same = grown c.loop-place.script c.add.new.script line c.in_ok-add.ensures.stage c.in_ok-add.ensures.ok in
    rw (p.1, p.2) (breaks_past c.in_err-take_break.field-0.0 bytes c.loop-place.start c.loop-place.place c.args.out.now.items (machine_of c.args.script.now) c.loop-place.out.items (machine_of c.loop-place.script) c.take_break.new.out.items
    c.loop-place.invariant.within (search rules) (search rules) c.loop-place.invariant.unbroken c.loop-place.invariant.leads
    (subst (λ (k : Machine). Halts k.stage.number c.in_err-take_break.field-0.0 (took None k 10) c.loop-place.out.items c.take_break.new.out.items) same c.in_err-take_break.ensures.took))

pub loop-place-preserved : goal.loop-place-preserved
loop-place-preserved c =
    elim c.if-byte-eq10.branch [
      | then-byte-eq10+in_ok-add+in_ok-take_break w ↦
          let bytes = c.args.bytes.now in
          let n = machine_of c.loop-place.script in
          let line = stretch bytes c.loop-place.start c.loop-place.place in
          let same = grown c.loop-place.script w.add.new.script line w.in_ok-add.ensures.stage w.in_ok-add.ensures.ok in
          let number : w.add.new.script.stage.number ≡ c.loop-place.script.stage.number = ap (λ (s : Stage). s.number) w.in_ok-add.ensures.stage in
          let k = machine_of w.take_break.new.script in
          let new = w.take_break.new.out.items in
          rw (w.script-is, w.out-is, w.start-is) (record {
            within = omega arith;
            unbroken = λ j from below. absurd (omega (arith, from, below));
            leads = goes_past bytes c.loop-place.start c.loop-place.place c.args.out.now.items (machine_of c.args.script.now) c.loop-place.out.items n new k
                c.loop-place.invariant.within c.loop-place-test.true w.if-byte-eq10.true c.loop-place.invariant.unbroken c.loop-place.invariant.leads
                (subst (λ (at : Machine). (answer : Option (List ℕ)) × (text : List ℕ) × MayTake answer at 10 × (took answer at 10 ≡ Ok (line_answer text k)) × (new ≡ c.loop-place.out.items ++ text)) same w.in_ok-take_break.ensures.took);
            number = omega (arith, number, w.take_break.ensures.number, c.loop-place.invariant.number);
          })
      | else-byte-eq10 w ↦
          let e : (get_or c.args.bytes.now c.loop-place.place 0 == 10) ≡ false = grind (arith, nat_tests, w.if-byte-eq10.false) in
          rw (w.script-is, w.out-is, w.start-is) (record {
            within = omega (arith, c.loop-place.invariant.within);
            unbroken = unbroken_more c.args.bytes.now c.loop-place.start c.loop-place.place c.loop-place.invariant.unbroken e;
            leads = c.loop-place.invariant.leads;
            number = c.loop-place.invariant.number;
          })
    ]

pub returns-clause-fed : goal.returns-clause-fed
returns-clause-fed c = fed_last c.add-2.result c.args.bytes.now c.loop-place.start c.args.out.now.items (machine_of c.args.script.now) c.loop-place.out.items c.loop-place.script c.add-2.new.script
    (search rules) (search rules) c.loop-place.invariant.leads c.add-2.ensures.stage c.add-2.ensures.ok c.add-2.ensures.err
