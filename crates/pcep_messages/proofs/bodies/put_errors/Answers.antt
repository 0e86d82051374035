use Rattle.pcep_messages.proofs.ErrorObjects.{errors_put}
use Rattle.pcep_messages.proofs.bodies.put_errors.Goals as goal

pub returns-clause-written : goal.returns-clause-written
returns-clause-written c =
    let requests = rw c.as_slice.ensures at c.in_ok-put_requests.ensures.written in
    let srps = rw c.as_slice-2.ensures at c.in_ok-put_srps.ensures.written in
    let errors = rw c.as_slice-3.ensures at c.in_ok-put_each_error.ensures.written in
    errors_put c.args.errors.now c.args.out.now.items c.put_requests.new.out.items c.put_srps.new.out.items c.put_each_error.new.out.items requests srps errors
