-- What the code holds while it reads, without where it lies in memory.
use Rattle.te_base.specs.declared.fields.NodeFields.{NodeFields}
use Rattle.te_base.specs.declared.fields.LinkFields.{LinkFields}
use Rattle.te_base.specs.declared.network.Parts.{Parts}
use Rattle.te_base.specs.Ted.{Ted}
use Rattle.te_base.specs.Fields.{NodeText, LinkText}

abbrev pub node_texts : NodeFields → NodeText
node_texts f = record { name = f.name.now; id = f.id.now; place = f.place }

abbrev pub link_texts : LinkFields → LinkText
link_texts f = record { from = f.from.now; to = f.to.now; local = f.local.now; remote = f.remote.now; igp = f.igp; te = f.te; colour = f.colour; reservable = f.reservable }

-- what the parts stand for
abbrev pub base_in : Parts → Ted
base_in p = record { nodes = p.nodes; links = p.links.items; owners = p.owners }
