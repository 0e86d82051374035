use Rattle.std.proofs.Common.{◌≡◌, ◌≤◌, ◌-◌, ◌++◌, drop, map, take}
use Rattle.std.specs.Prelude.{filter, string_bytes}
use Rattle.std.specs.List.{flat_map}
use Rattle.serde_json.specs.View.{view}
use Rattle.watch_board.specs.Boards.{is_in}
use Rattle.watch_board.specs.Rows.{peer_row}
use Rattle.watch_board.proofs.board.add_peers.Given as goal

abbrev pub invariant-loop-peer : goal.invariant-loop-peer
invariant-loop-peer l = record {
  rows : string_bytes l.text ++ flat_map peer_row (take (l.most - l.count) (filter (is_in l.up) (map view (drop l.peer-index l.peers))))
      ≡ string_bytes l.fn.text ++ flat_map peer_row (take l.most (filter (is_in l.up) (map view l.peers)));
  few : l.count ≤ l.most;
}
