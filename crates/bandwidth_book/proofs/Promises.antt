-- Lists of paths, one by one, and the room that is promised for them.
use Rattle.std.proofs.Common.{◌≡◌, ◌<◌, ◌≤◌, ◌+◌, ℕ, zero, suc, nat_lt, List, ◌∷◌, ◌++◌, Option, length, drop, drop-cons, add-one, get_or, true, sym, ap, subst, ◌∙◌, arith, inl, inr, ◌⊎◌, length-append}
use Rattle.std.proofs.lemmas.Bool.{cases_Bool}
use Rattle.std.proofs.lemmas.Bool.Decides.{nat_tests}
use Rattle.lsp_base.specs.declared.path.Path.{Path}
use Rattle.lsp_base.specs.declared.tunnel.Tunnel.{Tunnel}
use Rattle.bandwidth_book.specs.Entries.{IsMoved}
use Rattle.bandwidth_book.specs.Reservation.{held_of, promised_after, takes_memory}
use Rattle.bandwidth_book.specs.Holdings.{Holdings}
use Rattle.bandwidth_book.specs.declared.reservation.BookOp.{BookOp}
use Rattle.bandwidth_book.specs.declared.reservation.BookOp.TheVariants.{Withdraw}
use Rattle.bandwidth_book.specs.Paths.{held_by}
use Rattle.bandwidth_book.specs.Tunnels.{held_by_path}
use Rattle.bandwidth_book.proofs.Moved.{moved_both, moved_part}

pub split : (m n : ℕ) → (m < n) ⊎ (n ≤ m)
split m n =
    elim (cases_Bool (nat_lt m n)) [
      | inl e ↦ inl (let l : m < n = grind (arith, nat_tests) in l)
      | inr e ↦ inr (let l : n ≤ m = grind (arith, nat_tests) in l)
    ]

-- what the next path holds, followed by what the rest holds
pub next_path : (l : ℕ) (t : Tunnel) (xs : List Path) (i : ℕ) (x : Path) → i < length xs → x ≡ get_or xs i x → held_by l t (drop i xs) ≡ held_by_path x.tunnel (held_of x) l t x.links ++ held_by l t (drop (i + 1) xs)
next_path l t xs i x less is =
    let cons = drop-cons xs i x less in
    let next = add-one i in
    let e : drop i xs ≡ x ∷ drop (i + 1) xs = cc in
    ap (λ (ys : List Path). held_by l t ys) e

pub next_long : (l : ℕ) (t : Tunnel) (xs : List Path) (i : ℕ) (x : Path) → i < length xs → x ≡ get_or xs i x → length (held_by l t (drop i xs)) ≡ length (held_by_path x.tunnel (held_of x) l t x.links) + length (held_by l t (drop (i + 1) xs))
next_long l t xs i x less is = ap (λ hs. length hs) (next_path l t xs i x less is) ∙ length-append (held_by_path x.tunnel (held_of x) l t x.links) (held_by l t (drop (i + 1) xs))

pub path_moved : (m : BookOp) (l : ℕ) (t : Tunnel) (xs : List Path) (i : ℕ) (x : Path) (o u v : Option Holdings) → i < length xs → x ≡ get_or xs i x
    → IsMoved m (held_by_path x.tunnel (held_of x) l t x.links) o u → IsMoved m (held_by l t (drop (i + 1) xs)) u v → IsMoved m (held_by l t (drop i xs)) o v
path_moved m l t xs i x o u v less is one rest = subst (λ hs. IsMoved m hs o v) (sym (next_path l t xs i x less is)) (moved_both m _ _ o u v one rest)

pub path_refused : (m : BookOp) (l : ℕ) (t : Tunnel) (xs : List Path) (i : ℕ) (x : Path) (o u : Option Holdings) → i < length xs → x ≡ get_or xs i x → takes_memory m ≡ true
    → IsMoved m (held_by_path x.tunnel (held_of x) l t x.links) o u → IsMoved m (held_by l t (drop i xs)) o u
path_refused m l t xs i x o u less is promise one = subst (λ hs. IsMoved m hs o u) (sym (next_path l t xs i x less is)) (moved_part m _ (held_by l t (drop (i + 1) xs)) o u promise one)

-- no room is left if no more was promised than is given up
pub given_up : (n p : ℕ) → p ≤ n → promised_after Withdraw n p ≤ 0
given_up zero p h = h
given_up (suc n) p h = omega arith
