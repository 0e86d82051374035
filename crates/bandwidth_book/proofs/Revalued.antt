-- What is left of the links when one of them gets other values.
use Rattle.std.proofs.Common.{◌≡◌, ◌<◌, ◌-ℤ◌, pos, ℕ, zero, suc, List, [], ◌∷◌, length, Option, option_map, refl, ap, arith}
use Rattle.std.specs.Prelude.{unwrap_or}
use Rattle.std.proofs.lemmas.Int.{ints}
use Rattle.lsp_base.specs.Shares.{reservable, reserved, unreserved}
use Rattle.lsp_base.specs.declared.path.Path.{Path}
use Rattle.te_base.specs.Values.{Values, set_values}
use Rattle.te_base.specs.declared.network.Link.{Link}
use Rattle.te_base.proofs.Values.{set-other}

reservable_here : (links : List Link) (n : ℕ) (v : Values) → n < length links → reservable (set_values links n v) n ≡ v.reservable
reservable_here [] n v less = absurd (omega (arith, less))
reservable_here (l ∷ ls) zero v less = refl
reservable_here (l ∷ ls) (suc n) v less = reservable_here ls n v (omega (arith, less))

difference : (a b r : ℕ) → (pos a -ℤ pos r) -ℤ (pos b -ℤ pos r) ≡ pos a -ℤ pos b
difference a b r = omega (arith, ints)

pub left_moves : (links : List Link) (n : ℕ) (v : Values) (paths : List Path) (p : ℕ) → n < length links → unreserved (set_values links n v) paths n p -ℤ unreserved links paths n p ≡ pos v.reservable -ℤ pos (reservable links n)
unfolding unreserved
left_moves links n v paths p less = rw (reservable_here links n v less) (difference v.reservable (reservable links n) (reserved paths n p))

pub left_stays : (links : List Link) (n : ℕ) (v : Values) (paths : List Path) (l p : ℕ) → (n ≡ l → ⊥) → unreserved (set_values links n v) paths l p ≡ unreserved links paths l p
unfolding unreserved
left_stays links n v paths l p apart = ap (λ (o : Option Link). pos (unwrap_or (option_map (λ k. k.reservable) o) 0) -ℤ pos (reserved paths l p)) (set-other links n l v apart)
