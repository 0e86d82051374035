use Rattle.std.proofs.Common.{◌≡◌, ◌+◌, ◌++◌, string_bytes, drop}
use Rattle.script_lines.specs.Texts.{steps_from}
use Rattle.script_lines.proofs.texts.add_steps.Given as goal

-- the text so far and that of the steps that are left make the whole
abbrev pub invariant-loop-number : goal.invariant-loop-number
invariant-loop-number l =
    string_bytes l.text ++ steps_from (l.first + l.number) (drop l.number l.steps) ≡ string_bytes l.fn.text ++ steps_from l.first l.steps
