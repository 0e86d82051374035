use Rattle.std.proofs.Common.{◌≡◌, ◌++◌, string_bytes, drop}
use Rattle.std.specs.List.{list_all}
use Rattle.base_lines.specs.Items.{peers_items}
use Rattle.base_lines.specs.Lines.{peer_has_lines, text_of_items}
use Rattle.base_lines.proofs.lines.add_peers.Given as goal

-- the text so far and the lines that are left make the whole, and each peer so far has lines
abbrev pub invariant-loop-peer : goal.invariant-loop-peer
invariant-loop-peer l =
    (string_bytes l.text ++ text_of_items (peers_items (drop l.peer-index l.peers)) ≡ string_bytes l.fn.text ++ text_of_items (peers_items l.fn.peers))
    × (list_all peer_has_lines (drop l.peer-index l.peers) ≡ list_all peer_has_lines l.fn.peers)
