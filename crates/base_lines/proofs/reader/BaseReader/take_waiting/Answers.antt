use Rattle.std.proofs.Common.{◌≡◌, ◌+◌, length, rules, tests, arith}
use Rattle.base_lines.specs.Items.{Reading}
use Rattle.base_lines.specs.declared.stage.Stage.TheVariants.{Peers}
use Rattle.base_lines.proofs.LastPeer.{waits}
use Rattle.base_lines.proofs.reader.BaseReader.take_waiting.Goals as goal

pub returns-clause-taken : goal.returns-clause-taken
returns-clause-taken c =
    let inside = c.self.inside in
    let r : Reading = record {
      stage = inside.stage;
      counts = inside.counts;
      values = inside.values.items;
      peers = inside.peers.items;
      paths = inside.paths.items;
      records = inside.records.items;
      names = inside.names.items;
      tickets = inside.tickets.items;
    } in
    let at : inside.stage ≡ Peers = search (rules, tests) in
    let last : c.in-Some.last + 1 ≡ length inside.peers.items = search (rules, tests, arith) in
    rw (c.in_ok-push.ensures.added, ← c.self.view_is) (waits r c.in-Some.last c.index_mut.result.now c.args.message at last c.index_mut.ensures.value)
