use Rattle.std.proofs.Common.{ap, ◌∙◌, string_bytes}
use Rattle.std.proofs.lemmas.Cmp.{nat_list_eq_equiv}
use Rattle.std.specs.Str.{bytes_eq}
use Rattle.te_base.specs.Entries.{node_under}
use Rattle.te_base.specs.LinkText.{node_named}
use Rattle.te_base.proofs.Entries.{position_under}
use Rattle.te_base.proofs.nodes.NodeTable.number.Goals as goal

pub returns : goal.returns
returns c =
    let name = c.args.name.now in
    c.get_index_of.ensures.index
    ∙ position_under (λ k. bytes_eq name (string_bytes k)) (λ n. bytes_eq n.name name) node_under (λ e. nat_list_eq_equiv.symm name (string_bytes e.0)) c.self.inside.ids.entries
    ∙ ap (λ ns. node_named ns name) c.self.view_is
