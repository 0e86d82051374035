-- `path FROM TO BW SETUP HOLD [KEY=VALUE ..]`: a path that nobody asks the network for, or what stands in its way.
use Rattle.std.specs.Prelude.{ℕ, List, [], ◌∷◌, codes, Option, Some, None, ◌≡◌, false}
use Rattle.json.specs.Json.{Json, boolean, array, object, Items, no_items, item, no_members, member, document}
use Rattle.path_looks.specs.declared.answer.PathAnswer.{PathAnswer}
use Rattle.path_looks.specs.declared.full.FullLink.{FullLink}
use Rattle.path_looks.specs.declared.link_room.LinkRoom.{LinkRoom}
use Rattle.pce_view.specs.Fields.{left_or_null, obstacle_json, whole_or_null, wholes}
use Rattle.pce_view.specs.Json.{whole}
use Rattle.pce_view.specs.Words.{cost_in, is_found, link_in, links_in, obstacle_of}
use Rattle.lsp_base.specs.declared.lsp.Constraints.{Constraints}
use Rattle.te_snapshot.specs.Network.{NetworkState, network_of}
use Rattle.path_looks.specs.Paths.{full_links, no_bounds, IsPathAnswer}
use Rattle.path_looks.specs.Tightest.{tightest}
use Rattle.pce_seen.specs.declared.seen.Network.{Network}
use Rattle.te_snapshot.specs.Left.{state_beside}
use Rattle.history_core.specs.Histories.{Content}
use Rattle.asks.specs.declared.ask.PathWanted.{PathWanted}

-- a link that is too full at a priority
unfoldable pub full_json : FullLink → Json
full_json f = object
    (member (codes "link") (whole f.link)
    (member (codes "priority") (whole f.priority)
    no_members))

abbrev pub full_items : List FullLink → Items
full_items [] = no_items
full_items (f ∷ fs) = item (full_json f) (full_items fs)

-- a path; or what stands in its way, with the path that there is without it and its links that are too full; and of the
-- path's links the one on which least is left
abbrev pub path_answer_json : PathAnswer → Option LinkRoom → List FullLink → Json
path_answer_json a tightest full = object
    (member (codes "is_found") (boolean (is_found a))
    (member (codes "obstacle") (obstacle_json (obstacle_of a))
    (member (codes "cost") (whole_or_null (cost_in a))
    (member (codes "links") (array (wholes (links_in a)))
    (member (codes "tightest_link") (whole_or_null (link_in tightest))
    (member (codes "tightest_left_bytes_per_second") (left_or_null tightest)
    (member (codes "full_links") (array (full_items full))
    no_members)))))))

-- what is asked of a path; no metric is bounded but the one that is to be least
abbrev pub wanted : PathWanted → Constraints
wanted q = record {
  source = Some q.from;
  destination = Some q.to;
  bandwidth = q.bandwidth;
  priorities = q.priorities;
  colours = (q.limits).colours;
  minimise = (q.limits).minimise;
  bound = (q.limits).max_cost;
  hop_bound = (q.limits).max_hops;
  other_bounds = no_bounds;
  local_protection = false;
}

-- a path of least cost on the snapshot, or what stands in its way, as JSON
pub record IsPathText (s : NetworkState) (c : Constraints) (text : List ℕ) : Type 0 where
  pub answer : PathAnswer
  pub holds : IsPathAnswer s c answer
  pub reads : document text ≡ Some (path_answer_json answer (tightest s.unreserved c (links_in answer)) (full_links s.unreserved c (links_in answer)))

-- the nodes, and a snapshot of the links with what the paths leave of them
pub record SeesNetwork (d : Content) (network : Network) : Type 0 where
  pub nodes : network.nodes.items ≡ d.state.te.nodes
  pub snapshot : network.snapshot ≡ state_beside (network_of d.state.te) d.state.base.paths

-- a path, or what stands in its way, on what was seen
abbrev pub ReadsPath : PathWanted → Network → List ℕ → Type 0
ReadsPath q n text = IsPathText n.snapshot (wanted q) text
