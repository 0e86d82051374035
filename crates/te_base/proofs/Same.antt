-- Nodes compared one by one.
use Rattle.std.proofs.Common.{◌≡◌, ℕ, zero, suc, ◌+◌, ◌<◌, ◌&&◌, Bool, List, [], ◌∷◌, length, map, drop, Option, Some, slice_get, refl, ap, sym, arith}
use Rattle.std.specs.Cmp.Lexicographic.{pointwise}
use Rattle.std.specs.declared.alloc.Global.{Global}
use Rattle.std.specs.declared.string.String.{String}
use Rattle.te_base.specs.declared.network.NodePlace.{NodePlace}
use Rattle.te_base.specs.Entries.{node_under}
use Rattle.te_base.specs.Reload.{same_node}

-- the comparison of the nodes from a place on
abbrev pub same_from : List (String Global × (ℕ × Option NodePlace)) → List (String Global × (ℕ × Option NodePlace)) → ℕ → Bool
same_from xs ys i = pointwise same_node (map node_under (drop i xs)) (map node_under (drop i ys))

-- is that of the nodes there, and of those that follow
pub same_here : (xs ys : List (String Global × (ℕ × Option NodePlace))) (i : ℕ) (r : Bool) → i < length xs → length xs ≡ length ys
    → ((e f : String Global × (ℕ × Option NodePlace)) → slice_get xs i ≡ Some e → slice_get ys i ≡ Some f → r ≡ same_node (node_under e) (node_under f))
    → same_from xs ys i ≡ (r && same_from xs ys (i + 1))
same_here [] ys i r lt long is = absurd (omega arith)
same_here (x ∷ xs) [] i r lt long is = absurd (omega arith)
same_here (x ∷ xs) (y ∷ ys) zero r lt long is = ap (λ b. b && same_from xs ys 0) (sym (is x y refl refl))
same_here (x ∷ xs) (y ∷ ys) (suc i) r lt long is =
    let next : suc i + 1 ≡ suc (i + 1) = omega arith in
    rw next (same_here xs ys i r (omega arith) (omega arith) is)
