use Rattle.std.proofs.Common.{rules}
use Rattle.pce_view.proofs.Listing.{one_best, one_better}
use Rattle.pce_view.proofs.better.add_better_at.Goals as goal

pub returns-in_ok-push : goal.returns-in_ok-push
returns-in_ok-push c = one_better c.args.seen.now c.args.place c.args.found.now.items c.push.new.self.items c.in-Some.better (search rules) (search rules)

pub returns-in_default : goal.returns-in_default
returns-in_default c = one_best c.args.seen.now c.args.place c.args.found.now.items (search rules)
