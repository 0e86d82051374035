use Rattle.std.proofs.Common.{◌≡◌, ◌<◌, pos, ℕ, length, slice_index_or}
use Rattle.lsp_base.specs.Shares.{unreserved}
use Rattle.database_looks.proofs.left.left_on.Given as goal

abbrev pub invariant-loop-priority : goal.invariant-loop-priority
invariant-loop-priority l = record {
  long : length l.left ≡ 8;
  done : (p : ℕ) → p < l.priority → slice_index_or l.left p (pos 0) ≡ unreserved l.database.state.te.links l.database.state.base.paths l.link p;
}
