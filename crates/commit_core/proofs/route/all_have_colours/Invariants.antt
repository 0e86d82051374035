use Rattle.std.proofs.Common.{◌≡◌, drop}
use Rattle.commit_core.specs.Routes.{all_have_colours}
use Rattle.commit_core.proofs.route.all_have_colours.Given as goal

abbrev pub invariant-loop-number : goal.invariant-loop-number
invariant-loop-number l = all_have_colours l.te.links l.colours (drop l.number-index l.path) ≡ all_have_colours l.te.links l.colours l.path
