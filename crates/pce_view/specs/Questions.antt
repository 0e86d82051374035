-- What an operator is shown to a question.
use Rattle.std.specs.Prelude.{ℕ, List}
use Rattle.pce_view.specs.declared.heard.Heard.{Heard}
use Rattle.pce_view.specs.declared.question.Form.{Form}
use Rattle.pce_view.specs.declared.question.Form.TheVariants.{Table, Json}
use Rattle.pce_view.specs.declared.question.ServerInfo.{ServerInfo}

-- the text for programs is read as what was seen; of that for people nothing is claimed
abbrev pub AnswersAs : {S : Type 0} → (ServerInfo → Heard → S → List ℕ → Type 0) → Form → ServerInfo → Heard → S → List ℕ → Type 0
AnswersAs reads Json info heard seen text = reads info heard seen text
AnswersAs reads Table info heard seen text = Unit {0}
