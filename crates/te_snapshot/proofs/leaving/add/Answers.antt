use Rattle.std.proofs.Common.{◌≡◌, ◌++◌, ◌∷◌, [], ap, sym, ◌∙◌, append-nil, if◌then◌else◌, get_or}
use Rattle.te_snapshot.specs.declared.outgoing.Outgoing.{Outgoing}
use Rattle.te_snapshot.specs.Leaving.{arc_of, items_in}
use Rattle.te_snapshot.proofs.Lists.{set_related}
use Rattle.te_snapshot.proofs.leaving.add.Goals as goal

pub returns : goal.returns
returns c = λ v.
    let arc = arc_of c.args.number c.args.link.now in
    let before = (get_or c.args.lists.now c.args.link.now.from c.index-lists-link.result).items in
    let pushed : c.push.new.self.items ≡ before ++ c.of.result ∷ [] = c.in_ok-push.ensures.items in
    set_related (λ b o u. items_in u ≡ items_in o ++ (if b then arc ∷ [] else [])) c.args.lists.now c.args.link.now.from c.index-lists-link.result c.push.new.self c.requires
    (pushed ∙ ap (λ (x : Outgoing). before ++ x ∷ []) c.of.ensures) (λ o. sym (append-nil (items_in o))) v
