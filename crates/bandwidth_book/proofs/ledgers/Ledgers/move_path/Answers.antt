use Rattle.std.proofs.Common.{◌≡◌, ◌<◌, length, sym, ap, ◌∙◌, arith}
use Rattle.std.proofs.lemmas.List.{with_items_is}
use Rattle.bandwidth_book.specs.Paths.{tunnel_eq}
use Rattle.bandwidth_book.specs.Tunnels.{most_on}
use Rattle.bandwidth_book.proofs.Moved.{small_by_path}
use Rattle.bandwidth_book.proofs.Same.{tunnel_laws}
use Rattle.bandwidth_book.proofs.Totals.{total_small}
use Rattle.bandwidth_book.proofs.Written.{by_key}
use Rattle.bandwidth_book.proofs.ledgers.Ledgers.move_path.Goals as goal

pub move_in_tunnel-requires-clause-small : goal.move_in_tunnel-requires-clause-small
move_in_tunnel-requires-clause-small c = rw c.deref_mut.ensures.value (λ l p h q.
    let s = c.args.self.now.summed l p h q in
    let t = total_small tunnel_eq tunnel_laws (most_on l p) c.args.self.now.tunnels.entries c.args.self.now.unique c.args.self.now.few (λ k. c.args.self.now.small l k p h) in
    omega (arith, s, t))

pub move_in_tunnel-requires-clause-room : goal.move_in_tunnel-requires-clause-room
move_in_tunnel-requires-clause-room c = rw c.deref_mut.ensures.value (λ l h.
    let own = c.requires.room l c.args.tunnel h in
    let same = by_key c.args.tunnel c.args.held l c.args.tunnel c.args.path.now in
    let itself = tunnel_laws.refl c.args.tunnel in
    rw (same, itself) at own)

pub invariant_of-self : goal.invariant_of-self
invariant_of-self c =
    let long : length c.move_in_tunnel.new.sums ≡ c.args.self.now.sums.len = c.move_in_tunnel.ensures.rows ∙ (ap length c.deref_mut.ensures.value ∙ sym c.args.self.now.sums.ok.0) in
    let items = with_items_is c.args.self.now.sums c.move_in_tunnel.new.sums long in
    let rows = c.move_in_tunnel.ensures.rows in
    record {
      summed = rw items c.move_in_tunnel.ensures.sums;
      few = c.move_in_tunnel.ensures.few c.args.self.now.few;
      small = rw items (λ l k p h.
          let less : l < length c.deref_mut.result.now = omega (arith, h, rows) in
          small_by_path c.args.op c.args.tunnel c.args.held l k c.args.path.now _ _ p (c.move_in_tunnel.ensures.moved l k less).kept c.requires.small (c.args.self.now.small l k p (rw c.deref_mut.ensures.value at less)));
      busy = rw items (λ l k h.
          let less : l < length c.deref_mut.result.now = omega (arith, h, rows) in
          (c.move_in_tunnel.ensures.moved l k less).busy (c.args.self.now.busy l k (rw c.deref_mut.ensures.value at less)));
      full = c.move_in_tunnel.ensures.full;
      unique = c.move_in_tunnel.ensures.unique;
    }
