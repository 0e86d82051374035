use Rattle.std.proofs.Common.{◌≡◌, ◌∙◌, ℕ, ◌+◌, ◌-◌, ◌<◌, ap, arith, length, map, reverse, sym, take}
use Rattle.serde_json.specs.View.{view}
use Rattle.watch_board.specs.Rows.{step_row}
use Rattle.watch_board.specs.Steps.{is_decided}
use Rattle.watch_board.proofs.Listing.{back_left, enough, next_kept, passed_over}
use Rattle.watch_board.proofs.board.add_decisions.Goals as goal
use Rattle.watch_board.proofs.board.add_decisions.Goals.{else-count-most-via-then-count-most+else-is_decided, else-count-most-via-else-count-most}

pub loop-place-preserved-then-is_decided : goal.loop-place-preserved-then-is_decided
loop-place-preserved-then-is_decided c =
    let steps = c.args.steps.now in
    let place = c.loop-place.place in
    let one : place ≡ (place - 1) + 1 = omega arith in
    let below : place - 1 < length steps = omega arith in
    let left = ap (λ (n : ℕ). reverse (map view (take n steps))) one ∙ back_left view steps (place - 1) c.index-steps-place.result below c.index-steps-place.is in
    record {
      rows = next_kept step_row c.loop-place.text c.add_step.new.text is_decided c.args.most c.loop-place.count (view c.index-steps-place.result) _ _ _ left
          c.if-count-most.true (sym c.is_decided.ensures ∙ c.if-is_decided.true) c.in_ok-add_step.ensures c.loop-place.invariant.rows;
      few = omega arith;
    }

pub loop-place-preserved : goal.loop-place-preserved
loop-place-preserved c =
    let steps = c.args.steps.now in
    let place = c.loop-place.place in
    let one : place ≡ (place - 1) + 1 = omega arith in
    let below : place - 1 < length steps = omega arith in
    let left = ap (λ (n : ℕ). reverse (map view (take n steps))) one ∙ back_left view steps (place - 1) c.index-steps-place.result below c.index-steps-place.is in
    let known = c.loop-place.invariant.rows in
    let before = λ (n : ℕ). reverse (map view (take n steps)) in
    elim c.else-count-most.branch [
      | else-count-most-via-then-count-most+else-is_decided w ↦ record {
        rows = passed_over step_row is_decided c.args.most c.loop-place.count c.loop-place.text (view c.index-steps-place.result) _ _ _ left (sym w.is_decided.ensures ∙ w.if-is_decided.false) known;
        few = c.loop-place.invariant.few;
      }
      | else-count-most-via-else-count-most w ↦ record {
        rows = enough step_row is_decided c.args.most c.loop-place.count c.loop-place.text (before place) (before (place - 1)) _ w.if-count-most.false known;
        few = c.loop-place.invariant.few;
      }
    ]
