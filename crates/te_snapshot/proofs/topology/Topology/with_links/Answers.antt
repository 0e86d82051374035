use Rattle.std.proofs.Common.{rules, ◌≡◌, ◌∙◌, List, map, ap, subst, sym}
use Rattle.std.proofs.lemmas.List.{length-map}
use Rattle.std.specs.Arc.{arc_value}
use Rattle.te_base.specs.declared.network.Link.{Link}
use Rattle.te_snapshot.specs.declared.outgoing.Outgoing.{Outgoing}
use Rattle.te_snapshot.specs.Inside.{network_in}
use Rattle.te_snapshot.specs.Leaving.{arc_now}
use Rattle.te_snapshot.specs.Network.{Network, AreLinksOf}
use Rattle.te_snapshot.proofs.Cuts.{list_of-map}
use Rattle.te_snapshot.proofs.Links.{links_sound, leaving-now, entering-now}
use Rattle.te_snapshot.proofs.topology.Topology.with_links.Goals as goal

pub invariant_of-result : goal.invariant_of-result
invariant_of-result c =
    let n : Network = network_in c.self.inside in
    let links : List Link = c.args.links.now in
    let are : AreLinksOf n links = subst (λ (m : Network). AreLinksOf m links) (sym c.self.view_is) c.requires in
    let now : Outgoing → Outgoing = arc_now links in
    let new : c.in_ok-to_vec.field-0.items ≡ links = search (rules, c.in_ok-to_vec.ensures.items_if_clones_equal) in
    let owners : arc_value c.in_ok-try_clone.field-0 ≡ arc_value c.self.inside.owners = search (rules, c.in_ok-try_clone.ensures) in
    let out : c.in_ok-with_values_of.field-0 ≡ map (map now) c.self.inside.leaving = search (rules, c.in_ok-with_values_of.ensures) in
    let into : c.in_ok-with_values_of-2.field-0 ≡ map (map now) c.self.inside.entering = search (rules, c.in_ok-with_values_of-2.ensures) in
    record {
      sound = rw (new, owners) (links_sound n links c.self.invariant.sound are);
      count = rw out (length-map c.self.inside.leaving (map now) ∙ c.self.invariant.count);
      leaving = λ v. rw (new, out) (list_of-map now c.self.inside.leaving v ∙ ap (map now) (c.self.invariant.leaving v) ∙ leaving-now n.links links v are.ends);
      entering_count = rw into (length-map c.self.inside.entering (map now) ∙ c.self.invariant.entering_count);
      entering = λ v. rw (new, into) (list_of-map now c.self.inside.entering v ∙ ap (map now) (c.self.invariant.entering v) ∙ entering-now n.links links v are.ends);
    }
