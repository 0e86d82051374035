use Rattle.std.proofs.Common.{nat_eq, ◌++◌, ◌∷◌, [], ◌∙◌, ap, sym, subst}
use Rattle.std.specs.Map.{values_of}
use Rattle.indexmap.proofs.CallerLemmas.{insert_entry-new}
use Rattle.te_base.specs.Entries.{AreKeyed}
use Rattle.te_base.specs.Owners.{owner_of}
use Rattle.te_base.proofs.Entries.{keyed_more, owner_missing, values_more}
use Rattle.te_base.proofs.owners.OwnerTable.push.Goals as goal

pub invariant_of-self-2 : goal.invariant_of-self-2
invariant_of-self-2 c =
    let missing = owner_missing c.args.owner.address _ c.self.invariant (ap (λ os. owner_of os c.args.owner.address) c.self.view_is ∙ c.requires.new) in
    let entries = c.in_ok-insert.ensures.entries ∙ insert_entry-new nat_eq c.self.inside.map c.args.owner.address c.args.owner missing in
    subst AreKeyed (sym entries) (keyed_more _ c.args.owner c.self.invariant)

pub returns : goal.returns
returns c =
    let missing = owner_missing c.args.owner.address _ c.self.invariant (ap (λ os. owner_of os c.args.owner.address) c.self.view_is ∙ c.requires.new) in
    let entries = c.in_ok-insert.ensures.entries ∙ insert_entry-new nat_eq c.self.inside.map c.args.owner.address c.args.owner missing in
    record { pushed = ap values_of entries ∙ values_more _ c.args.owner.address c.args.owner ∙ ap (λ os. os ++ c.args.owner ∷ []) c.self.view_is }
