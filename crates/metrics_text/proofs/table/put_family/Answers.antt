use Rattle.std.proofs.Common.{◌∙◌, [], ◌∷◌, ◌++◌, List, ap, refl, sym}
use Rattle.std.proofs.lemmas.Bool.{cond-false, cond-true}
use Rattle.std.proofs.lemmas.Result.{on_ok_weaker}
use Rattle.metrics_text.specs.Exposition.{Family, exposition}
use Rattle.metrics_text.specs.Rows.{is_left_out, row_family}
use Rattle.metrics_text.proofs.Lines.{no_families, one_family}
use Rattle.metrics_text.proofs.table.put_family.Goals as goal

pub returns-then-is_left_out : goal.returns-then-is_left_out
returns-then-is_left_out c =
    no_families c.args.text.now.items _ _ (cond-true (is_left_out c.args.family.now.samples) [] (row_family c.args.of.now c.args.family.now ∷ []) (sym c.if-is_left_out.ensures)) refl

pub returns : goal.returns
returns c = on_ok_weaker c.put_samples.result
    (λ h. one_family (row_family c.args.of.now c.args.family.now) c.args.text.now.items _ _ c.put_samples.new.text.items c.in_ok-put_help.ensures c.in_ok-put_type.ensures h
    ∙ ap (λ (fs : List Family). c.args.text.now.items ++ exposition fs)
    (sym (cond-false (is_left_out c.args.family.now.samples) [] (row_family c.args.of.now c.args.family.now ∷ []) (sym c.if-is_left_out.ensures))))
    c.put_samples.ensures
