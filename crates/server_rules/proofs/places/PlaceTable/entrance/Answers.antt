use Rattle.std.proofs.Common.{◌≡◌, ℕ, List, rules, subst}
use Rattle.server_rules.specs.declared.entrance.Taken.{Taken}
use Rattle.server_rules.specs.Places.{IsEntrance}
use Rattle.server_rules.proofs.places.PlaceTable.entrance.Goals as goal

pub returns : goal.returns
returns c =
    let taken : c.deref.result.now ≡ c.args.self.now.taken = search rules in
    let places : c.self.inside.places ≡ c.args.self.now.places = search rules in
    subst (λ (n : ℕ). IsEntrance c.args.self.now.taken c.args.address n c.admit.result) places
    (subst (λ (xs : List Taken). IsEntrance xs c.args.address c.self.inside.places c.admit.result) taken c.admit.ensures)
