use Rattle.std.proofs.Common.{◌≡◌, string_bytes, drop}
use Rattle.pce_engine.specs.Standing.{served_in_turn}
use Rattle.script_lines.specs.LineAnswer.{behind}
use Rattle.pce_engine.proofs.standing.serve_each.Given as goal

-- the remaining peers lead to what all of them lead to
abbrev pub invariant-loop-peer : goal.invariant-loop-peer
invariant-loop-peer l =
    behind (string_bytes l.text) (served_in_turn (drop l.peer-index l.peers) l.standing) ≡ behind (string_bytes l.fn.text) (served_in_turn l.peers l.fn.standing)
