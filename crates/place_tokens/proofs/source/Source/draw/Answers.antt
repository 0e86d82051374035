use Rattle.std.proofs.Common.{◌≡◌, ℕ, [], ◌∷◌, ◌++◌, ap, ◌∙◌, sym, subst, List}
use Rattle.atomic_table.specs.Table.{Me}
use Rattle.place_tokens.specs.declared.rule.View.{View}
use Rattle.place_tokens.specs.Drawing.{RiseFrom}
use Rattle.place_tokens.proofs.Rising.{rise_snoc}
use Rattle.place_tokens.proofs.source.Source.draw.Goals as goal

pub invariant_of-seat : goal.invariant_of-seat
invariant_of-seat g c =
    let own : List ℕ = c.seat.inside.token.me.0.own in
    let next : ℕ = c.self.inside.keeper.me.0.next in
    let views = c.compare.ensures.views in
    let before : c.compare.new.token.me.0.own ++ c.compare.new.keeper.me.0.next ∷ [] ≡ own ++ next ∷ [] = λ i. (views.1 i).0.own ++ (views.0 i).0.next ∷ [] in
    let after : c.hand_over.new.token.me.0.own ≡ own ++ next ∷ [] = ap (λ (m : Me (Unit {0}) View). m.0.own) c.hand_over.ensures.token ∙ before in
    let table = c.hand_over.ensures.same.1 ∙ c.compare.ensures.same.1 ∙ c.seat.invariant.0 in
    (table, cc, subst (RiseFrom 0) (sym after) (rise_snoc own next c.seat.invariant.2 c.compare.ensures.below))
