use Rattle.std.proofs.Common.{rules}
use Rattle.std.specs.Arc.{arc_value}
use Rattle.path_looks.proofs.Closing.{stays_closed}
use Rattle.path_looks.proofs.Trying.{one_goes, one_stays}
use Rattle.path_looks.proofs.moves.try_one.Goals as goal

pub returns-in_ok-push-in-Some-clause-tried : goal.returns-in_ok-push-in-Some-clause-tried
returns-in_ok-push-in-Some-clause-tried c = λ start ms tried.
    one_goes (arc_value c.args.topology.now) c.args.closed start ms c.args.moves.now.items c.push.new.self.items c.args.table.now.items c.in_ok-table-in-Some.field-0.items c.args.mover.now c.in-Some.path (search rules) (search rules) (search rules) tried

pub returns-in_ok-push-in-None-clause-tried : goal.returns-in_ok-push-in-None-clause-tried
returns-in_ok-push-in-None-clause-tried c = λ start ms tried.
    one_stays (arc_value c.args.topology.now) c.args.closed start ms c.args.moves.now.items c.push-in-None.new.self.items c.args.table.now.items c.args.mover.now (search rules) (search rules) tried

pub returns-in_ok-push-in-Some-clause-closed : goal.returns-in_ok-push-in-Some-clause-closed
returns-in_ok-push-in-Some-clause-closed c =
    stays_closed c.args.closed c.args.table.now.items c.in_ok-table-in-Some.field-0.items c.args.mover.now c.in-Some.path (search rules) (search rules) (search rules)
