use Rattle.std.proofs.Common.{◌≡◌, ◌^◌, min, take}
use Rattle.std.specs.List.{sum_by}
use Rattle.event_bytes.specs.Bytes.{wire_size, hop_bytes}
use Rattle.event_bytes.proofs.routes.route_bytes.Given as goal

abbrev pub invariant-loop-hop : goal.invariant-loop-hop
invariant-loop-hop l = record {
  size : l.size ≡ min (sum_by wire_size (take l.hop-index l.hops)) (2 ^ 40);
  held : l.held ≡ min (sum_by hop_bytes (take l.hop-index l.hops)) (2 ^ 40);
}
