use Rattle.std.proofs.Common.{◌≡◌, ◌≢◌, ◌<◌, All, AllPairs, length}
use Rattle.std.proofs.lemmas.Result.{IfOk-weaker}
use Rattle.te_base.specs.Views.{base_in}
use Rattle.te_base.specs.Walk.{walk}
use Rattle.te_base.proofs.WalkLaws.{walk_some}
use Rattle.te_base.proofs.base.TeBase.walk.Goals as goal

pub returns-clause-exist : goal.returns-clause-exist
returns-clause-exist c =
    let base = base_in c.self.inside.parts in
    rw (← c.self.view_is) (IfOk-weaker c.walk_parts.result (λ v. v.items ≡ walk base c.args.start c.args.hops.now c.args.end) (λ v. All (λ l. l < length base.links) v.items) (λ v is. rw is (walk_some base c.args.start c.args.hops.now c.args.end).below) c.walk_parts.ensures)

pub returns-clause-once : goal.returns-clause-once
returns-clause-once c =
    let base = base_in c.self.inside.parts in
    IfOk-weaker c.walk_parts.result (λ v. v.items ≡ walk base c.args.start c.args.hops.now c.args.end) (λ v. AllPairs (λ l k. l ≢ k) v.items) (λ v is. rw is (walk_some base c.args.start c.args.hops.now c.args.end).once) c.walk_parts.ensures
