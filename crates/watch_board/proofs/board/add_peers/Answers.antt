use Rattle.std.proofs.Common.{◌≡◌, ◌∙◌, Bool, true, false, cond, not, ap, arith, sym}
use mathlib.Core.Bool.{beq}
use Rattle.serde_json.specs.View.{view}
use Rattle.watch_board.specs.Boards.{is_in}
use Rattle.watch_board.specs.Rows.{peer_row}
use Rattle.watch_board.proofs.Listing.{enough, front_left, next_kept, passed_over}
use Rattle.watch_board.proofs.board.add_peers.Goals as goal
use Rattle.watch_board.proofs.board.add_peers.Goals.{then-count-most+then-is_up-up+in_ok-add_peer, else-count-most, else-count-most-via-then-count-most+else-is_up-up, else-count-most-via-else-count-most}

tested : (up is answer : Bool) → beq is up ≡ answer → cond up is (not is) ≡ answer
tested true true answer e = e
tested true false answer e = e
tested false true answer e = e
tested false false answer e = e

pub loop-peer-preserved : goal.loop-peer-preserved
loop-peer-preserved c =
    let up = c.args.up in
    let most = c.args.most in
    let count = c.loop-peer.count in
    let text = c.loop-peer.text in
    let peer = view c.peer-item.result in
    let left = front_left view c.args.peers.now c.loop-peer.peer-index c.peer-item.result c.loop-peer-test.true c.peer-item.is in
    let known = c.loop-peer.invariant.rows in
    elim c.if-count-most.branch [
      | then-count-most+then-is_up-up+in_ok-add_peer w ↦
          rw (w.text-is, w.count-is) (record {
            rows = next_kept peer_row text w.add_peer.new.text (is_in up) most count peer _ _ _ left w.if-count-most.true
                (tested up _ true (ap (λ (is : Bool). beq is up) (sym w.is_up.ensures) ∙ w.if-is_up-up.true)) w.in_ok-add_peer.ensures known;
            few = omega (arith, w.if-count-most.true);
          })
      | else-count-most w ↦ elim w.else-count-most.branch [
        | else-count-most-via-then-count-most+else-is_up-up v ↦
            rw (w.text-is, w.count-is) (record {
              rows = passed_over peer_row (is_in up) most count text peer _ _ _ left (tested up _ false (ap (λ (is : Bool). beq is up) (sym v.is_up.ensures) ∙ v.if-is_up-up.false)) known;
              few = c.loop-peer.invariant.few;
            })
        | else-count-most-via-else-count-most v ↦
            rw (w.text-is, w.count-is) (record { rows = enough peer_row (is_in up) most count text _ _ _ v.if-count-most.false known; few = c.loop-peer.invariant.few })
      ]
    ]
