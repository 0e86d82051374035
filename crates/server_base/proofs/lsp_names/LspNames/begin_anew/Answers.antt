use Rattle.std.proofs.Common.{◌≡◌, ◌∙◌, cond, Option, None, Some, Result, Ok, Err, inl, inr, ap}
use Rattle.std.specs.Prelude.{OnErr, OnOk}
use Rattle.server_base.specs.LspNames.{BeginsAnew, Renames, name_in}
use Rattle.server_base.specs.declared.lsp_names.LspNames.{LspNames}
use Rattle.server_log.specs.declared.shown_name.ShownName.{ShownName}
use Rattle.server_rules.specs.Retries.{is_same_lsp}
use Rattle.server_rules.specs.declared.retry.RouterLsp.{RouterLsp}
use Rattle.server_base.proofs.lsp_names.LspNames.begin_anew.Goals as goal

begun : {T E : Type 0} (r : Result T E) (old new : LspNames) (of : RouterLsp) (name : ShownName)
    → ((q : RouterLsp) → name_in old q ≡ None) → OnOk r (Renames of (Some name) old new) → OnErr r ((q : RouterLsp) → name_in new q ≡ name_in old q) → BeginsAnew of name new
begun (Ok u) old new of name none ok err = λ q. inr (ok q ∙ ap (λ (o : Option ShownName). cond (is_same_lsp of q) (Some name) o) (none q))
begun (Err e) old new of name none ok err = λ q. inl (err q ∙ none q)

pub returns : goal.returns
returns c =
    begun c.named-noted.result c.forget_all.new.self c.named-noted.new.self c.args.of c.args.name c.forget_all.ensures c.named-noted.ensures.ok c.named-noted.ensures.err
