-- What is shown of a database: what one look saw of it, with nothing that routers said beside.
use Rattle.std.specs.Prelude.{ℕ, List}
use Rattle.history_core.specs.Histories.{Content}
use Rattle.pce_view.specs.Questions.{AnswersAs}
use Rattle.pce_view.specs.declared.heard.Heard.{Heard}
use Rattle.pce_view.specs.declared.question.Form.{Form}
use Rattle.pce_view.specs.declared.question.ServerInfo.{ServerInfo}

pub record SeenAs {S : Type 0} (sees : Content → S → Type 0) (reads : ServerInfo → Heard → S → List ℕ → Type 0) (form : Form) (d : Content) (text : List ℕ) : Type 0 where
  pub seen : S
  pub around : ServerInfo
  pub heard : Heard
  pub is_seen : sees d seen
  pub answers : AnswersAs reads form around heard seen text
