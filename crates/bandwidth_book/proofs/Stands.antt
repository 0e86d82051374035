-- What a book stands for after a change.
use Rattle.std.proofs.Common.{◌≡◌, ℕ, ◌+◌, ◌==◌, List, [], ◌∷◌, ◌++◌, map, sum_by, IsPermutation, refl, sym, ap, ◌∙◌, arith, inl, inr, append_assoc}
use Rattle.std.proofs.lemmas.Bool.{cases_Bool}
use Rattle.std.proofs.lemmas.List.Sums.{sum_by-cons}
use Rattle.std.proofs.lemmas.List.Sorted.{sum_by-IsPermutation}
use Rattle.lsp_base.specs.Lsps.{HasAll, made_stale, without}
use Rattle.lsp_base.specs.declared.path.Path.{Path}
use Rattle.lsp_base.specs.declared.tunnel.Tunnel.{Tunnel}
use Rattle.lsp_base.proofs.Removal.{without-permutes}
use Rattle.bandwidth_book.specs.Reservation.{Reservation}
use Rattle.bandwidth_book.specs.Reservation.{held_of, times, with_all, without_all}
use Rattle.bandwidth_book.specs.Tunnels.{held_by_path}
use Rattle.bandwidth_book.specs.Paths.{IsHeldBy, held_by}
use Rattle.bandwidth_book.proofs.Counts.{times_append, times_with_all, times_without_all}

pub held_by_append : (l : ℕ) (t : Tunnel) (xs ys : List Path) → held_by l t (xs ++ ys) ≡ held_by l t xs ++ held_by l t ys
held_by_append l t [] ys = refl
held_by_append l t (x ∷ xs) ys =
    let one = held_by_path x.tunnel (held_of x) l t x.links in
    ap (λ hs. one ++ hs) (held_by_append l t xs ys) ∙ sym (append_assoc one (held_by l t xs) (held_by l t ys))

-- ---- the order of the paths makes no difference

times_held_by : (l : ℕ) (t : Tunnel) (h : Reservation) (xs : List Path) → times h (held_by l t xs) ≡ sum_by (λ x. times h (held_by_path x.tunnel (held_of x) l t x.links)) xs
times_held_by l t h [] = refl
times_held_by l t h (x ∷ xs) =
    let one = held_by_path x.tunnel (held_of x) l t x.links in
    times_append h one (held_by l t xs) ∙ ap (λ n. times h one + n) (times_held_by l t h xs)
    ∙ sym (sum_by-cons (λ y. times h (held_by_path y.tunnel (held_of y) l t y.links)) x xs)

pub times_permuted : (l : ℕ) (t : Tunnel) (h : Reservation) (xs ys : List Path) → IsPermutation xs ys → times h (held_by l t ys) ≡ times h (held_by l t xs)
times_permuted l t h xs ys same =
    times_held_by l t h ys ∙ sum_by-IsPermutation (λ x. times h (held_by_path x.tunnel (held_of x) l t x.links)) xs ys same ∙ sym (times_held_by l t h xs)

-- what stands for a list stands for each other list of the same paths
pub stands_permuted : (n : ℕ) (held : ℕ → Tunnel → List Reservation) (xs ys : List Path) → IsPermutation xs ys → IsHeldBy n held xs → IsHeldBy n held ys
stands_permuted n held xs ys same s l t h less = s l t h less ∙ sym (times_permuted l t h xs ys same)

-- ---- what the rest holds

times_without : (l : ℕ) (t : Tunnel) (h : Reservation) (paths ds : List Path) → HasAll paths ds
    → times h (held_by l t paths) ≡ times h (held_by l t ds) + times h (held_by l t (without paths ds))
times_without l t h paths ds has =
    sym (times_permuted l t h paths (ds ++ without paths ds) (without-permutes paths ds has))
    ∙ ap (times h) (held_by_append l t ds (without paths ds)) ∙ times_append h (held_by l t ds) (held_by l t (without paths ds))

-- after a change, for each list of paths that the book stood for and that has the dropped ones
pub held_after : (l : ℕ) (t : Tunnel) (h : Reservation) (old new : List Reservation) (paths dropped added : List Path)
    → new ≡ with_all (without_all old (held_by l t dropped)) (held_by l t added) → HasAll paths dropped
    → times h old ≡ times h (held_by l t paths) → times h new ≡ times h (held_by l t (without paths dropped ++ added))
held_after l t h old new paths dropped added e has s =
    let n = ap (times h) e in
    let a = times_with_all h (without_all old (held_by l t dropped)) (held_by l t added) in
    let b = times_without_all h old (held_by l t dropped) in
    let c = times_without l t h paths dropped has in
    let d : times h (held_by l t (without paths dropped ++ added)) ≡ times h (held_by l t (without paths dropped)) + times h (held_by l t added)
    = ap (times h) (held_by_append l t (without paths dropped) added) ∙ times_append h (held_by l t (without paths dropped)) (held_by l t added) in
    omega (arith, n, a, b, c, d, s)

-- ---- for the layers above

-- which paths are stale makes no difference
pub held_by_stale : (peer l : ℕ) (t : Tunnel) (paths : List Path) → held_by l t (map (made_stale peer) paths) ≡ held_by l t paths
held_by_stale peer l t [] = refl
held_by_stale peer l t (x ∷ xs) =
    let ih = held_by_stale peer l t xs in
    elim (cases_Bool (x.peer == peer)) [
      | inl here ↦ rw here (ap (λ hs. held_by_path x.tunnel (held_of x) l t x.links ++ hs) ih)
      | inr other ↦ rw other (ap (λ hs. held_by_path x.tunnel (held_of x) l t x.links ++ hs) ih)
    ]

pub stands_stale : (n peer : ℕ) (held : ℕ → Tunnel → List Reservation) (paths : List Path) → IsHeldBy n held paths → IsHeldBy n held (map (made_stale peer) paths)
stands_stale n peer held paths s l t h less = s l t h less ∙ ap (times h) (sym (held_by_stale peer l t paths))
