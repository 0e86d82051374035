use Rattle.std.proofs.Common.{◌≡◌, drop}
use Rattle.lsp_base.specs.Same.{same_links}
use Rattle.lsp_base.proofs.names.is_same_name.Given as goal

abbrev pub invariant-loop-i : goal.invariant-loop-i
invariant-loop-i l = same_links (drop l.i l.a) (drop l.i l.b) ≡ same_links l.a l.b
