use Rattle.std.proofs.Common.{◌≡◌, ◌∷◌, ◌++◌, [], false, ◌∙◌, ap, sym, subst, rules}
use Rattle.std.specs.List.{list_any}
use Rattle.std.specs.Map.{values_of}
use Rattle.indexmap.specs.IndexMap.{insert_entry}
use Rattle.step_core.specs.Names.{AreKeyed, NameRoom, is_of_grant, key_of, same_key}
use Rattle.step_core.proofs.NameEntries.{keyed_placed, placed, placed_values}
use Rattle.step_core.proofs.name_table.NameTable.add.Goals as goal

pub invariant_of-self : goal.invariant_of-self
invariant_of-self c =
    let absent = subst (λ (t : NameRoom). list_any (is_of_grant c.args.name.peer c.args.name.srp) t.names ≡ false) (sym c.self.view_is) c.requires.absent in
    let inserted : c.insert.new.self.entries ≡ insert_entry same_key c.self.inside.map.entries (key_of c.args.name) c.args.name = search rules in
    subst AreKeyed (sym (inserted ∙ placed c.args.name _ c.self.invariant absent)) (keyed_placed c.args.name _ c.self.invariant)

pub returns : goal.returns
returns c =
    let absent = subst (λ (t : NameRoom). list_any (is_of_grant c.args.name.peer c.args.name.srp) t.names ≡ false) (sym c.self.view_is) c.requires.absent in
    let inserted : c.insert.new.self.entries ≡ insert_entry same_key c.self.inside.map.entries (key_of c.args.name) c.args.name = search rules in
    ap values_of (inserted ∙ placed c.args.name _ c.self.invariant absent) ∙ placed_values c.args.name _ ∙ ap (λ (t : NameRoom). t.names ++ c.args.name ∷ []) c.self.view_is
