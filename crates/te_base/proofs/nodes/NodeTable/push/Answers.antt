use Rattle.std.proofs.Common.{◌≡◌, ℕ, List, ◌++◌, ◌∷◌, [], None, position, map, ap, ◌∙◌, string_bytes}
use Rattle.std.proofs.lemmas.Cmp.{nat_list_eq_equiv}
use Rattle.std.proofs.lemmas.List.{map-append}
use Rattle.std.specs.Map.{keys_of}
use Rattle.std.specs.Str.{bytes_eq}
use Rattle.indexmap.proofs.MapLemmas.{Missing-position, insert_entry-absent}
use Rattle.te_base.specs.declared.network.Node.{Node}
use Rattle.te_base.specs.Entries.{node_under}
use Rattle.te_base.specs.LinkText.{node_named}
use Rattle.te_base.proofs.Entries.{position_under}
use Rattle.te_base.proofs.nodes.NodeTable.push.Goals as goal

pub returns : goal.returns
returns c =
    let k = c.into_text.result in
    let es = c.self.inside.ids.entries in
    let name : string_bytes k ≡ c.args.node.name = c.into_text.ensures in
    let none : position (λ x. bytes_eq (string_bytes k) (string_bytes x)) (keys_of es) ≡ None =
    position_under (λ x. bytes_eq (string_bytes k) (string_bytes x)) (λ (n : Node). bytes_eq n.name (string_bytes k)) node_under (λ e. nat_list_eq_equiv.symm (string_bytes k) (string_bytes e.0)) es
    ∙ ap (λ ns. node_named ns (string_bytes k)) c.self.view_is ∙ ap (λ (n : List ℕ). node_named c.args.self.now n) name ∙ c.requires.new in
    let entries = c.in_ok-insert.ensures.entries ∙ insert_entry-absent (λ x y. bytes_eq (string_bytes x) (string_bytes y)) k (c.args.node.id, c.args.node.place) es (Missing-position _ es none).absent in
    record { pushed = ap (map node_under) entries ∙ map-append node_under es ((k, (c.args.node.id, c.args.node.place)) ∷ []) ∙ (λ j. c.self.view_is j ++ record { name = name j; id = c.args.node.id; place = c.args.node.place } ∷ []) }
