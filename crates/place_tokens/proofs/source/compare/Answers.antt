use Rattle.std.proofs.Common.{◌≡◌, ◌+◌, ℕ, List, [], ◌∷◌, ap, ◌∙◌, subst, arith}
use Rattle.std.proofs.lemmas.List.Sums.{sum_by-cons}
use Rattle.atomic_table.specs.Table.{Me}
use Rattle.place_tokens.specs.declared.rule.View.{View}
use Rattle.place_tokens.specs.Drawing.{view, times, KnowsBelow}
use Rattle.place_tokens.proofs.Moves.{compares}
use Rattle.place_tokens.proofs.source.compare.Goals as goal

pub load-requires : goal.load-requires
load-requires c = (c.lend.ensures.same.0 ∙ c.requires.table.0, omega (arith, c.requires.table.2), compares _ _ _ c.lend.new.keeper.me (ap (λ (m : Me (Unit {0}) View). m.0.keeps) c.lend.ensures.keeper))

pub returns-clause-below : goal.returns-clause-below
returns-clause-below c =
    let k = c.args.keeper.now.me.0 in
    let own = c.args.token.now.me.0.own in
    let lent : k.lent ≡ [] = ap (λ (m : Me (Unit {0}) View). m.0.lent) c.requires.keeper in
    let kv : c.lend.new.keeper.me.0 ≡ view 1 (k.parts + 1) k.next [] (own ∷ []) = ap (λ (m : Me (Unit {0}) View). m.0) c.lend.ensures.keeper ∙ ap (λ (xs : List (List ℕ)). view 1 (k.parts + 1) k.next [] (own ∷ xs)) lent in
    let low : KnowsBelow (view 1 (k.parts + 1) k.next [] (own ∷ [])) = subst KnowsBelow kv c.load.ensures.2.1 in
    λ p some. low p (omega (arith, some, sum_by-cons (times p) own []))
