use Rattle.std.proofs.Common.{ℕ, All, List, subst, arith}
use Rattle.te_base.specs.declared.network.Link.{Link}
use Rattle.te_base.specs.Ted.{IsLinkAmong}
use Rattle.path_finder.specs.Limits.{limit_of}
use Rattle.path_finder.specs.Walks.{HasMetrics, IsLeastWalk, NoneWithin}
use Rattle.path_finder.proofs.Certificates.{has_metrics}
use Rattle.path_finder.proofs.Paths.{least_path, no_path, no_loop}
use Rattle.path_finder.proofs.answer.between.Goals as goal

pub returns-then-source-destination-clause-none : goal.returns-then-source-destination-clause-none
returns-then-source-destination-clause-none c = no_loop c.args.query.now c.args.source c.args.destination c.requires.from c.requires.to (omega arith)

pub returns-in-Some-clause-some : goal.returns-in-Some-clause-some
returns-in-Some-clause-some c =
    let q = c.args.query.now in
    let links = q.topology.now.links in
    let a = c.args.source in
    let b = c.args.destination in
    let path = c.in-Some.found.links in
    let cost = c.in-Some.found.cost in
    let metrics : HasMetrics links = has_metrics q.topology.now.nodes links (subst (λ (ls : List Link). All (IsLinkAmong q.topology.now.nodes) ls) c.links-links.ensures.links c.links-links.ensures.sound) in
    let w : IsLeastWalk q links a b c.limit_of.result c.hops_of.result path cost = rw c.in-Some.is at c.in_ok-found.ensures.some in
    let v = subst (λ (k : ℕ). IsLeastWalk q links a b k c.hops_of.result path cost) c.limit_of.ensures.limit w in
    let u = subst (λ (k : ℕ). IsLeastWalk q links a b (limit_of q.constraints.now.bound) k path cost) c.hops_of.ensures.hops v in
    least_path q a b path cost metrics c.requires.from c.requires.to c.if-source-destination.false u

pub returns-in-None-clause-none : goal.returns-in-None-clause-none
returns-in-None-clause-none c =
    let q = c.args.query.now in
    let links = q.topology.now.links in
    let a = c.args.source in
    let b = c.args.destination in
    let metrics : HasMetrics links = has_metrics q.topology.now.nodes links (subst (λ (ls : List Link). All (IsLinkAmong q.topology.now.nodes) ls) c.links-links.ensures.links c.links-links.ensures.sound) in
    let w : NoneWithin q links a b c.limit_of.result c.hops_of.result = rw c.in-None.is at c.in_ok-found.ensures.none in
    let v = subst (λ (k : ℕ). NoneWithin q links a b k c.hops_of.result) c.limit_of.ensures.limit w in
    let u = subst (λ (k : ℕ). NoneWithin q links a b (limit_of q.constraints.now.bound) k) c.hops_of.ensures.hops v in
    no_path q a b metrics c.requires.from c.requires.to u
