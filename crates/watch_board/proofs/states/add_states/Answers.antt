use Rattle.watch_board.specs.States.{state_words}
use Rattle.watch_board.proofs.Adding.{added_last, and_then}
use Rattle.watch_board.proofs.states.add_states.Goals as goal

pub returns : goal.returns
unfolding state_words
returns c = added_last c.add_count-7.result c.add_count-6.new.text _ _ _ c.add_count-7.ensures (λ last.
    (and_then c.args.text.now c.add_count.new.text _ _ _ c.in_ok-add_count.ensures
    (and_then c.add_count.new.text c.add_count-2.new.text _ _ _ c.in_ok-add_count-2.ensures
    (and_then c.add_count-2.new.text c.add_count-3.new.text _ _ _ c.in_ok-add_count-3.ensures
    (and_then c.add_count-3.new.text c.add_count-4.new.text _ _ _ c.in_ok-add_count-4.ensures
    (and_then c.add_count-4.new.text c.add_count-5.new.text _ _ _ c.in_ok-add_count-5.ensures
    (and_then c.add_count-5.new.text c.add_count-6.new.text _ _ _ c.in_ok-add_count-6.ensures last)))))))
