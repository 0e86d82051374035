-- Tests of an event in their order: the first that fails refuses it.
use Rattle.std.specs.Prelude.{Bool, true, false, Option, Some, None, Result, Ok, Err}
use Rattle.lsp_base.specs.declared.why.Why.{Why}

-- the refusal, unless the test passes
abbrev pub unless : Bool → Why → Option Why
unless true why = None
unless false why = Some why

-- one test after another: the refusal of the first that fails
infixr 12 ◌⨟◌
abbrev pub ◌⨟◌ : Option Why → Option Why → Option Why
Some why ⨟ later = Some why
None ⨟ later = later

-- what is answered if no test fails
abbrev pub answered_unless : {A : Type 0} → Option Why → A → Result A Why
answered_unless (Some why) answer = Err why
answered_unless None answer = Ok answer
