use Rattle.std.proofs.Common.{◌≡◌, true≢false, List, [], length, sym, ap, arith, ◌∙◌}
use Rattle.std.proofs.lemmas.List.{with_items_is}
use Rattle.te_base.specs.Ted.{Ted}
use Rattle.te_base.specs.Values.{set_values}
use Rattle.te_base.specs.declared.network.Link.{Link}
use Rattle.te_base.proofs.Values.{length-set_values, same-set, set-among}
use Rattle.te_snapshot.specs.Pages.{is_marked, row}
use Rattle.bandwidth_book.specs.Books.{links_of}
use Rattle.bandwidth_book.specs.Ledgers.{held_at}
use Rattle.bandwidth_book.proofs.Fits.{reservable_small}
use Rattle.bandwidth_book.proofs.Revalued.{left_moves, left_stays}
use Rattle.bandwidth_book.proofs.Tables.{row_beside, was_free}
use Rattle.bandwidth_book.proofs.book.Book.set_values.Goals as goal

pub invariant_of-self : goal.invariant_of-self
invariant_of-self c =
    let is : c.set_values.new.links ≡ set_values (links_of c.args.self.now) c.args.link c.args.values = c.set_values.ensures.links ∙ ap (λ (ls : List Link). set_values ls c.args.link c.args.values) c.deref_mut.ensures.value in
    let items = with_items_is c.args.self.now.links c.set_values.new.links (ap (λ (ls : List Link). length ls) is ∙ length-set_values (links_of c.args.self.now) c.args.link c.args.values ∙ sym c.args.self.now.links.ok.0) in
    let links = links_of c.args.self.now in
    let nodes = c.args.self.now.last.network.nodes in
    let base : Ted = record { nodes = []; links = links; owners = [] } in
    let among = set-among nodes links c.args.link c.args.values c.set_values.ensures.ranges c.args.self.now.same.among in
    record {
      same = rw (items, is) (record { ends = sym (same-set base c.args.link c.args.values).ends ∙ c.args.self.now.same.ends; among = among });
      agree = λ t. absurd (true≢false (sym t));
      sized = rw (items, is) (c.args.self.now.sized ∙ sym (length-set_values links c.args.link c.args.values));
      small = rw (items, is) (reservable_small nodes (set_values links c.args.link c.args.values) among);
      current = λ t. absurd (true≢false (sym t));
      fresh = rw (items, is) (λ l less free.
          let long = length-set_values links c.args.link c.args.values in
          row_beside links c.args.link c.args.values (held_at c.args.self.now.ledgers) l (row c.args.self.now.last.unreserved l)
          (λ same. absurd (true≢false (sym c.mark.ensures.marked ∙ ap (λ k. is_marked c.mark.new.self k) same ∙ free)))
          (c.args.self.now.fresh l (omega (arith, less, long)) (was_free (is_marked c.args.self.now.marks l) (is_marked c.mark.new.self l) (c.mark.ensures.kept l) free)));
      noted = c.args.self.now.noted;
    }

pub returns-clause-moves : goal.returns-clause-moves
returns-clause-moves c = λ paths p.
    let is : c.set_values.new.links ≡ set_values (links_of c.args.self.now) c.args.link c.args.values = c.set_values.ensures.links ∙ ap (λ (ls : List Link). set_values ls c.args.link c.args.values) c.deref_mut.ensures.value in
    let items = with_items_is c.args.self.now.links c.set_values.new.links (ap (λ (ls : List Link). length ls) is ∙ length-set_values (links_of c.args.self.now) c.args.link c.args.values ∙ sym c.args.self.now.links.ok.0) in
    rw (items, is) (left_moves (links_of c.args.self.now) c.args.link c.args.values paths p c.requires)

pub returns-clause-others : goal.returns-clause-others
returns-clause-others c = λ paths l p apart.
    let is : c.set_values.new.links ≡ set_values (links_of c.args.self.now) c.args.link c.args.values = c.set_values.ensures.links ∙ ap (λ (ls : List Link). set_values ls c.args.link c.args.values) c.deref_mut.ensures.value in
    let items = with_items_is c.args.self.now.links c.set_values.new.links (ap (λ (ls : List Link). length ls) is ∙ length-set_values (links_of c.args.self.now) c.args.link c.args.values ∙ sym c.args.self.now.links.ok.0) in
    rw (items, is) (left_stays (links_of c.args.self.now) c.args.link c.args.values paths l p apart)
