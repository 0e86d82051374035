use Rattle.std.proofs.Common.{◌≡◌, ℕ, ◌+◌, suc, List, [], ◌∷◌, drop, get_or, drop-cons, string_bytes, sym, ap, ◌∙◌, rules, arith}
use Rattle.pce_engine.specs.SessionLines.{message_line}
use Rattle.pce_engine.specs.Standing.{served_in_turn}
use Rattle.script_lines.specs.LineAnswer.{behind}
use Rattle.script_lines.proofs.LineAnswers.{each_goes_on}
use Rattle.pce_engine.proofs.standing.serve_each.Goals as goal

pub loop-peer-preserved : goal.loop-peer-preserved
loop-peer-preserved c =
    let i = c.loop-peer.peer-index in
    let next : suc i ≡ i + 1 = omega arith in
    let rest : drop i c.args.peers.now ≡ get_or c.args.peers.now i 0 ∷ drop (i + 1) c.args.peers.now = drop-cons c.args.peers.now i 0 (search rules) ∙ ap (λ (k : ℕ). get_or c.args.peers.now i 0 ∷ drop k c.args.peers.now) next in
    sym (each_goes_on (λ peer. message_line peer []) (get_or c.args.peers.now i 0) (drop (i + 1) c.args.peers.now) c.loop-peer.standing c.serve_one.new.standing (string_bytes c.loop-peer.text) (string_bytes c.serve_one.new.text) c.in_ok-serve_one.ensures)
    ∙ ap (λ (left : List ℕ). behind (string_bytes c.loop-peer.text) (served_in_turn left c.loop-peer.standing)) (sym rest)
    ∙ c.loop-peer.invariant
