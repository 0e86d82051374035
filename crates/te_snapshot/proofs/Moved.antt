-- What is left of links when one of them gets other values.
use Rattle.std.proofs.Common.{◌≡◌, ◌≢◌, ℕ, pos, ◌-ℤ◌, ◌+ℤ◌, List, Option, Some, option_map, slice_get, ap, arith}
use Rattle.std.specs.Prelude.{unwrap_or}
use Rattle.te_base.specs.declared.network.Link.{Link}
use Rattle.te_base.specs.Values.{Values, set_values}
use Rattle.te_base.proofs.Values.{set-at, set-other}
use Rattle.lsp_base.specs.declared.path.Path.{Path}
use Rattle.lsp_base.specs.Shares.{reservable, reserved, unreserved}

abbrev reserves : Option Link → ℕ
reserves o = unwrap_or (option_map (λ k. k.reservable) o) 0

-- on its own link what is left changes by the difference of the two reservable bandwidths
pub moved_there : (links : List Link) (n : ℕ) (v : Values) (l : Link) (paths : List Path) (p : ℕ) → slice_get links n ≡ Some l → unreserved (set_values links n v) paths n p ≡ unreserved links paths n p +ℤ (pos v.reservable -ℤ pos l.reservable)
unfolding unreserved
moved_there links n v l paths p is =
    let before : reservable links n ≡ l.reservable = ap reserves is in
    let after : reservable (set_values links n v) n ≡ v.reservable = ap reserves (set-at links n v l is) in
    rw (before, after) (grind (arith))

-- on no other link does it change
pub moved_nowhere_else : (links : List Link) (n m : ℕ) (v : Values) (paths : List Path) (p : ℕ) → n ≢ m → unreserved (set_values links n v) paths m p ≡ unreserved links paths m p
unfolding unreserved
moved_nowhere_else links n m v paths p apart = ap (λ k. pos k -ℤ pos (reserved paths m p)) (ap reserves (set-other links n m v apart))
