-- What a rule answers, compared with its definition.
use Rattle.std.specs.Prelude.{◌≡◌, Result, Ok, Err}
use Rattle.lsp_base.specs.declared.effect.Effect.{Effect}
use Rattle.lsp_base.specs.declared.why.Why.{Why as WhyOf}
use Rattle.delegate_rules.specs.declared.fault.RuleFault.{RuleFault}
use Rattle.delegate_rules.specs.declared.fault.RuleFault.TheVariants.{Why, OutOfMemory}

-- a refusal is the definition's, unless memory ran out
abbrev pub IsFaultOf : Result Effect WhyOf → RuleFault → Type 0
IsFaultOf given (Why why) = given ≡ Err why
IsFaultOf given OutOfMemory = Unit {0}

abbrev pub Gives : Result Effect RuleFault → Result Effect WhyOf → Type 0
Gives (Ok effect) given = given ≡ Ok effect
Gives (Err fault) given = IsFaultOf given fault
