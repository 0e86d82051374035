use Rattle.std.proofs.Common.{◌≡◌, List, [], ◌∷◌, ◌++◌, Result, Ok, Err, OnOk, rules}
use Rattle.std.specs.Prelude.{option_to_list}
use Rattle.lsp_base.specs.declared.path.Path.{Path}
use Rattle.pce_seen.specs.Over.{lsps_over}
use Rattle.pce_seen.proofs.Once.{with_new, without_new}
use Rattle.pce_seen.proofs.over.add_over.Goals as goal

on_ok : {A E : Type 0} (r : Result A E) (P Q : Type 0) → (P → Q) → OnOk r P → OnOk r Q
on_ok (Ok x) P Q f p = f p
on_ok (Err e) P Q f p = p

pub returns-in_ok-lsp-clause-seen : goal.returns-in_ok-lsp-clause-seen
returns-in_ok-lsp-clause-seen c =
    let lsps = c.args.lsps.now.content in
    let link = c.args.link in
    let path = c.args.path.now in
    let seen = c.args.seen.now.items in
    let after = c.add_lsp.new.seen.items in
    on_ok c.add_lsp.result (after ≡ seen ++ option_to_list c.in_ok-lsp.lsp) ((before : List Path) → seen ≡ lsps_over lsps link before → after ≡ lsps_over lsps link (before ++ path ∷ []))
    (λ is before seen_of. with_new lsps link before path seen after (search rules) (search rules) seen_of)
    c.add_lsp.ensures.seen

pub returns-else-is_new_over-clause-seen : goal.returns-else-is_new_over-clause-seen
returns-else-is_new_over-clause-seen c = λ before seen_of. without_new c.args.lsps.now.content c.args.link before c.args.path.now c.args.seen.now.items (search rules) seen_of
