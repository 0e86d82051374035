use Rattle.std.proofs.Common.{◌∙◌, ℕ, length, ap, subst, sym, ◌<◌}
use Rattle.te_base.specs.Ted.{Ted}
use Rattle.te_base.proofs.Values.{length-set_values}
use Rattle.link_reload.proofs.Entries.{network_set, this_and_next}
use Rattle.link_reload.proofs.reloading.set_links.Goals as goal

pub set_values-requires-clause-there : goal.set_values-requires-clause-there
set_values-requires-clause-there c =
    let this = this_and_next (length c.args.te.now.links) c.args.entries.now c.loop-entry.entry-index c.entry-item.result c.loop-entry-test.true c.entry-item.is c.loop-entry.invariant.there in
    subst (λ (n : ℕ). c.entry-item.result.link < n) (sym c.loop-entry.invariant.count) this.0

pub loop-entry-preserved : goal.loop-entry-preserved
loop-entry-preserved c =
    let old = c.loop-entry.te in
    let x = c.entry-item.result in
    let set = c.set_values.ensures.values in
    record {
      values = network_set old c.set_values.new.te c.args.te.now c.args.entries.now c.loop-entry.entry-index x c.loop-entry-test.true c.entry-item.is set c.loop-entry.invariant.values;
      network = c.set_values.ensures.network;
      stands = λ paths stood. c.set_values.ensures.stands paths (c.loop-entry.invariant.stands paths stood);
      count = ap (λ (te : Ted). length te.links) set ∙ length-set_values old.links x.link x.values ∙ c.loop-entry.invariant.count;
      there = (this_and_next (length c.args.te.now.links) c.args.entries.now c.loop-entry.entry-index x c.loop-entry-test.true c.entry-item.is c.loop-entry.invariant.there).1;
    }
