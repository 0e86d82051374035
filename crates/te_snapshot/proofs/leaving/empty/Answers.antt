use Rattle.std.proofs.Common.{rules, ◌≡◌, [], List, refl, sym, subst}
use Rattle.std.specs.declared.vec.Vec.{Vec}
use Rattle.std.specs.declared.alloc.Global.{Global}
use Rattle.te_snapshot.specs.declared.outgoing.Outgoing.{Outgoing}
use Rattle.te_snapshot.specs.Leaving.{items_in, listed}
use Rattle.te_snapshot.proofs.Lists.{pushed}
use Rattle.te_snapshot.proofs.leaving.empty.Goals as goal

pub loop-preserved : goal.loop-preserved
loop-preserved c = record {
  count = search rules;
  empty = λ v.
      subst (λ (xs : List (Vec Outgoing Global)). listed xs v ≡ []) (sym c.in_ok-push.ensures.items)
      (pushed (λ o. items_in o ≡ []) c.loop.lists.items c.new.result c.new.ensures.items refl c.loop.invariant.empty v);
}
