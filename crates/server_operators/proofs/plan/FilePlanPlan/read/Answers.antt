use Rattle.server_operators.proofs.plan.FilePlanPlan.read.Goals as goal

pub returns-in-Err : goal.returns-in-Err
returns-in-Err g c = c.fault_of.ensures c.args.self.now.te.now
