-- The line `roll`: the history is rolled.
use Rattle.std.specs.Prelude.{ℕ, List, ◌++◌, codes, Result, Ok}
use Rattle.std.specs.Fmt.{decimal}
use Rattle.history_core.specs.Histories.{Content, steps_of, rolled_up}
use Rattle.script_lines.specs.LineAnswer.{LineAnswer, line_answer}
use Rattle.script_lines.specs.declared.fault.CommandFault.{CommandFault}

-- says how many steps were taken before the base, from now on
abbrev pub rolled_text : ℕ → List ℕ
rolled_text steps = codes "rolled " ++ decimal steps

-- `roll`
unfoldable pub roll_line : Content → Result (LineAnswer Content) CommandFault
roll_line d = Ok (line_answer (rolled_text (steps_of d) ++ codes "\n") (rolled_up d))
