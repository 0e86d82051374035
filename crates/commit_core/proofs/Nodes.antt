-- The nodes that a path passes.
use Rattle.std.proofs.Common.{◌≡◌, ℕ, ◌==◌, true, List, [], ◌∷◌, sym, arith}
use Rattle.std.specs.List.{list_any}
use Rattle.std.proofs.lemmas.Bool.{or_left}
use Rattle.std.proofs.lemmas.Bool.Decides.{nat_tests}
use Rattle.te_base.specs.declared.network.Link.{Link}
use Rattle.te_snapshot.specs.Admissible.{nodes_of}

-- a path passes the node that it starts at
pub passes_start : (links : List Link) (start : ℕ) (path : List ℕ) (node : ℕ) → start ≡ node → true ≡ list_any (λ y. y == node) (nodes_of links start path)
passes_start links start [] node e = let same : (start == node) ≡ true = grind (arith, nat_tests, e) in sym (or_left (start == node) _ same)
passes_start links start (n ∷ ns) node e = let same : (start == node) ≡ true = grind (arith, nat_tests, e) in sym (or_left (start == node) _ same)
