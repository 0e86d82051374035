use Rattle.std.proofs.Common.{arith, subst, sym}
use Rattle.path_finder.specs.Walks.{InRange}
use Rattle.path_finder.proofs.Certificates.{none_cheaper, relaxed_of, in_range}
use Rattle.path_finder.proofs.certificate.none_cheaper.Goals as goal

pub returns : goal.returns
returns c = λ passes.
    let q = c.args.query.now in
    let links = q.topology.now.links in
    let inside = subst (InRange links) (sym c.requires.nodes) (in_range q.topology.now.nodes links c.requires.among) in
    none_cheaper q links c.args.labels.now c.args.ends.source c.args.ends.destination c.args.limit (omega arith) (omega arith)
    (relaxed_of q links c.args.labels.now c.args.middle inside (c.is_relaxed.ensures passes))
