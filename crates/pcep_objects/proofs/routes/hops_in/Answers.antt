use Rattle.std.proofs.Common.{◌≡◌, ◌<◌, length, rules, arith}
use Rattle.std.proofs.lemmas.Result.{err_from_is_err_and}
use Rattle.pcep_objects.proofs.Cutting.{goes_on, size_ends, read_ends, is_done}
use Rattle.pcep_objects.specs.Steps.{pieces}
use Rattle.pcep_objects.specs.Routes.{subobject_size, hop_of}
use Rattle.pcep_objects.proofs.routes.hops_in.Goals as goal

pub returns-in_err-size : goal.returns-in_err-size
returns-in_err-size c =
    let read = hop_of c.args.explicit in
    let some : 0 < length c.loop-rest.rest.now = search rules in
    let p = err_from_is_err_and c.from_residual-in_err-size.result c.from_residual-in_err-size.ensures.1 in
    rw (p.1, p.2) (size_ends subobject_size read c.in_err-size.field-0.0 c.loop-rest.hops.items c.loop-rest.rest.now (pieces subobject_size read c.args.bytes.now) some c.in_err-size.ensures.gives c.loop-rest.invariant)

pub returns-in_err-hop : goal.returns-in_err-hop
returns-in_err-hop c =
    let read = hop_of c.args.explicit in
    let some : 0 < length c.loop-rest.rest.now = search rules in
    let given = rw c.split_at.ensures.front at c.in_err-hop.ensures in
    let positive : 0 < c.in_ok-size.size = omega (arith, c.in_ok-size.ensures.least) in
    let p = err_from_is_err_and c.from_residual-in_err-hop.result c.from_residual-in_err-hop.ensures.1 in
    rw (p.1, p.2) (read_ends subobject_size read c.in_err-hop.field-0.0 c.loop-rest.hops.items c.loop-rest.rest.now c.in_ok-size.size (pieces subobject_size read c.args.bytes.now) positive some c.in_ok-size.ensures.gives given c.loop-rest.invariant)

pub loop-rest-preserved : goal.loop-rest-preserved
loop-rest-preserved c =
    let read = hop_of c.args.explicit in
    let some : 0 < length c.loop-rest.rest.now = search rules in
    let given = rw c.split_at.ensures.front at c.in_ok-hop.ensures in
    let positive : 0 < c.in_ok-size.size = omega (arith, c.in_ok-size.ensures.least) in
    rw (c.in_ok-push.ensures.items, c.split_at.ensures.back) (goes_on subobject_size read c.loop-rest.hops.items c.loop-rest.rest.now c.in_ok-size.size c.in_ok-hop.hop (pieces subobject_size read c.args.bytes.now) positive some c.in_ok-size.ensures.gives given c.loop-rest.invariant)

pub returns : goal.returns
returns c =
    let none : length c.loop-rest.rest.now ≡ 0 = search rules in
    is_done subobject_size (hop_of c.args.explicit) c.loop-rest.hops.items c.loop-rest.rest.now (pieces subobject_size (hop_of c.args.explicit) c.args.bytes.now) none c.loop-rest.invariant
