use Rattle.std.proofs.Common.{◌≡◌, ◌+◌, [], ◌∷◌, ◌++◌, ap, ◌∙◌, arith}
use Rattle.atomic_table.specs.Table.{Me}
use Rattle.place_tokens.specs.declared.rule.View.{View}
use Rattle.place_tokens.specs.Drawing.{view, with_next, without_own, own_only, together}
use Rattle.place_tokens.proofs.Moves.{draws, gives_at, part_at, takes_at}
use Rattle.place_tokens.proofs.source.hand_over.Goals as goal

pub load-requires : goal.load-requires
load-requires g c =
    let k0 = c.requires.1.0 in
    (c.requires.0.0, omega (arith, c.requires.0.2), draws _ _ _ c.args.keeper.now.me (ap (λ (m : Me (Unit {0}) View). m.0.keeps) k0) (omega (arith, ap (λ (m : Me (Unit {0}) View). m.0.parts) k0)))

pub split_seat-given-requires : goal.split_seat-given-requires
split_seat-given-requires g c =
    let k0 = c.requires.1.0 in
    let k1 : c.load.new.seat.me ≡ (view 1 1 (g.g.0 + 1) (g.g.0 ∷ []) [], []) = c.load.ensures.2 ∙ ap (λ (m : Me (Unit {0}) View). (with_next m.0, m.1)) k0 in
    (c.load.ensures.0 ∙ c.requires.0.0, omega (arith, c.requires.0.2), gives_at _ _ _ _ c.load.new.seat.me.0 (ap (λ (m : Me (Unit {0}) View). m.0) k1))

pub join_seat-requires : goal.join_seat-requires
join_seat-requires g c =
    let k0 = c.requires.1.0 in
    let k1 : c.load.new.seat.me ≡ (view 1 1 (g.g.0 + 1) (g.g.0 ∷ []) [], []) = c.load.ensures.2 ∙ ap (λ (m : Me (Unit {0}) View). (with_next m.0, m.1)) k0 in
    let s = c.split_seat-given.ensures in
    let t : c.split_seat-given.result.me ≡ (view 0 1 0 (g.g.0 ∷ []) [], []) = s.4 ∙ ap (λ (m : Me (Unit {0}) View). (own_only m.0, [])) k1 in
    let tv : c.split_seat-given.result.me.0 ≡ view 0 1 0 (g.g.0 ∷ []) [] = ap (λ (m : Me (Unit {0}) View). m.0) t in
    let mv : c.args.token.now.me.0 ≡ view 0 1 0 g.g.1 [] = ap (λ (m : Me (Unit {0}) View). m.0) c.requires.1.1 in (
      c.requires.0.1,
      s.3 ∙ c.load.ensures.0 ∙ c.requires.0.0,
      ap (λ (m : Me (Unit {0}) View). m.1) t,
      omega (arith, c.requires.0.2),
      takes_at _ _ _ _ _ (omega (arith, ap (λ (v : View). v.parts) tv)) (λ _. omega (arith, ap (λ (v : View). v.next) tv, ap (λ (v : View). v.next) mv)),
    )

pub split_seat-part-requires : goal.split_seat-part-requires
split_seat-part-requires g c =
    let k0 = c.requires.1.0 in
    let k1 : c.load.new.seat.me ≡ (view 1 1 (g.g.0 + 1) (g.g.0 ∷ []) [], []) = c.load.ensures.2 ∙ ap (λ (m : Me (Unit {0}) View). (with_next m.0, m.1)) k0 in
    let s = c.split_seat-given.ensures in
    let t : c.split_seat-given.result.me ≡ (view 0 1 0 (g.g.0 ∷ []) [], []) = s.4 ∙ ap (λ (m : Me (Unit {0}) View). (own_only m.0, [])) k1 in
    let m1 : c.join_seat.new.seat.me ≡ (view 0 2 0 (g.g.1 ++ g.g.0 ∷ []) [], []) = c.join_seat.ensures.2 ∙ (λ i. (together (c.requires.1.1 i).0 (t i).0, (c.requires.1.1 i).1)) in
    (c.join_seat.ensures.0 ∙ c.requires.0.1, omega (arith, c.requires.0.2), part_at _ _ 0 2 0 _ _ (omega arith) (λ z. z) (ap (λ (m : Me (Unit {0}) View). m.0) m1))

pub join_seat-requires-2 : goal.join_seat-requires-2
join_seat-requires-2 g c =
    let k0 = c.requires.1.0 in
    let k1 : c.load.new.seat.me ≡ (view 1 1 (g.g.0 + 1) (g.g.0 ∷ []) [], []) = c.load.ensures.2 ∙ ap (λ (m : Me (Unit {0}) View). (with_next m.0, m.1)) k0 in
    let s = c.split_seat-given.ensures in
    let k2 : c.split_seat-given.new.seat.me ≡ (view 1 0 (g.g.0 + 1) [] [], []) = s.2 ∙ ap (λ (m : Me (Unit {0}) View). (without_own m.0, m.1)) k1 in
    let kv : c.split_seat-given.new.seat.me.0 ≡ view 1 0 (g.g.0 + 1) [] [] = ap (λ (m : Me (Unit {0}) View). m.0) k2 in
    let r = c.split_seat-part.ensures in
    let rv : c.split_seat-part.result.me.0 ≡ view 0 1 0 [] [] = ap (λ (m : Me (Unit {0}) View). m.0) r.4 in (
      s.0 ∙ c.load.ensures.0 ∙ c.requires.0.0,
      r.3 ∙ c.join_seat.ensures.0 ∙ c.requires.0.1,
      ap (λ (m : Me (Unit {0}) View). m.1) r.4,
      omega (arith, c.requires.0.2),
      takes_at _ _ _ _ _ (omega (arith, ap (λ (v : View). v.parts) rv)) (λ z. absurd (omega (arith, z, ap (λ (v : View). v.keeps) kv))),
    )
