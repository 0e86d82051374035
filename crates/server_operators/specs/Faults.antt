-- Tests whether a run ends when its operator's part does.
use Rattle.std.specs.Prelude.{Bool, true, false, not}
use Rattle.server_talk.specs.declared.operator.OperatorEnd.{OperatorEnd}
use Rattle.server_talk.specs.declared.operator.OperatorEnd.TheVariants.{InputEnded, EndAsked, ReadFault, WriteFault, FlushFault}
use Rattle.server_rules.specs.declared.orders.Sessions.{Sessions}
use Rattle.server_rules.specs.declared.orders.Sessions.TheVariants.{Endless}

-- A line asked for it, or the lines of an endless run have ended and no other operator can reach it.
abbrev pub closes_run : OperatorEnd → Sessions → Bool → Bool
closes_run EndAsked sessions has_control = true
closes_run InputEnded Endless has_control = not has_control
closes_run end sessions has_control = false

-- Standard input failed, and no other operator can reach the run.
abbrev pub cuts_run : OperatorEnd → Bool → Bool
cuts_run ReadFault has_control = not has_control
cuts_run end has_control = false

abbrev pub is_fault : OperatorEnd → Bool
is_fault ReadFault = true
is_fault WriteFault = true
is_fault FlushFault = true
is_fault end = false
