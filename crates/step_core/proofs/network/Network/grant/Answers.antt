use Rattle.std.proofs.Common.{sym, subst}
use Rattle.lsp_base.specs.Lsps.{HasAll}
use Rattle.lsp_base.specs.declared.effect.Effect.{Effect}
use Rattle.step_core.specs.Networks.{IsBooked}
use Rattle.step_core.proofs.Booked.{IsBooked-reserved, IsBooked-changed}
use Rattle.step_core.proofs.Dropped.{has_none}
use Rattle.step_core.proofs.network.Network.grant.Goals as goal

pub invariant_of-self : goal.invariant_of-self
invariant_of-self c =
    rw c.make_room.ensures.same_lsps (IsBooked-reserved c.self.inside.te c.self.inside.lsps.content c.self.inside.book c.make_room.new.book c.make_room.ensures.same_network c.make_room.ensures.stands c.self.invariant)

pub invariant_of-self-in_err-reserve_name : goal.invariant_of-self-in_err-reserve_name
invariant_of-self-in_err-reserve_name c =
    rw c.make_room.ensures.same_lsps (IsBooked-reserved c.self.inside.te c.self.inside.lsps.content c.self.inside.book c.make_room.new.book c.make_room.ensures.same_network c.make_room.ensures.stands c.self.invariant)

pub invariant_of-self-in_err-push : goal.invariant_of-self-in_err-push
invariant_of-self-in_err-push c =
    rw c.make_room.ensures.same_lsps (IsBooked-reserved c.self.inside.te c.self.inside.lsps.content c.self.inside.book c.make_room.new.book c.make_room.ensures.same_network c.make_room.ensures.stands c.self.invariant)

pub invariant_of-self-2 : goal.invariant_of-self-2
invariant_of-self-2 c =
    let te = c.self.inside.te in
    let base = c.self.inside.lsps.content in
    let e = c.in_ok-effect.effect in
    let has : HasAll base.paths e.change.dropped = subst (λ (x : Effect). HasAll base.paths x.change.dropped) (sym c.in_ok-effect.ensures) (has_none base.paths) in
    let reserved : IsBooked te base c.make_room.new.book = IsBooked-reserved te base c.self.inside.book c.make_room.new.book c.make_room.ensures.same_network c.make_room.ensures.stands c.self.invariant in
    rw (c.make_change.ensures.changed, c.make_room.ensures.same_lsps) (IsBooked-changed te base c.make_room.new.book c.make_change.new.book c.args.peer e c.make_change.ensures.same_network c.make_change.ensures.stands has reserved)
