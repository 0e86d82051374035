-- The greatest that is held is the share of lsp_base.
use Rattle.std.proofs.Common.{◌≡◌, ℕ, ◌==◌, ◌&&◌, ◌||◌, nat_le, max, Bool, true, false, List, [], ◌∷◌, ◌++◌, map, filter, refl, ap, ◌∙◌, arith, inl, inr, if◌then◌else◌}
use Rattle.std.specs.List.{list_any}
use Rattle.std.proofs.lemmas.Bool.{cases_Bool}
use Rattle.lsp_base.specs.Shares.{greatest, has_link, is_held, share}
use Rattle.lsp_base.specs.declared.path.Path.{Path}
use Rattle.lsp_base.specs.declared.tunnel.Tunnel.{Tunnel}
use Rattle.bandwidth_book.specs.Reservation.{Reservation}
use Rattle.bandwidth_book.specs.Reservation.{held_of, most}
use Rattle.bandwidth_book.specs.Tunnels.{held_by_path}
use Rattle.bandwidth_book.specs.Paths.{held_by, tunnel_eq}
use Rattle.bandwidth_book.proofs.Counts.{most_append}
use Rattle.bandwidth_book.proofs.Same.{tunnel_eq_is}

one_link : (a b low : Bool) (n : ℕ) (rest : ℕ) (more : Bool) → rest ≡ (if b && low && more then n else 0)
    → max (if a && b then (if low then n else 0) else 0) rest ≡ (if b && low && (a || more) then n else 0)
one_link true true true n rest true e = omega (arith, e)
one_link true true true n rest false e = omega (arith, e)
one_link true true false n rest more e = omega (arith, e)
one_link true false low n rest more e = omega (arith, e)
one_link false b low n rest more e = omega (arith, e)

first_of_one : (a b : Bool) (h : Reservation) (rest : List Reservation) (p : ℕ) → most ((if a && b then h ∷ [] else []) ++ rest) p ≡ max (if a && b then (if nat_le h.hold p then h.bandwidth else 0) else 0) (most rest p)
first_of_one true true h rest p = refl
first_of_one true false h rest p = omega arith
first_of_one false b h rest p = omega arith

pub most_by_path : (own : Tunnel) (h : Reservation) (l : ℕ) (t : Tunnel) (p : ℕ) (links : List ℕ)
    → most (held_by_path own h l t links) p ≡ (if tunnel_eq own t && nat_le h.hold p && list_any (λ x. x == l) links then h.bandwidth else 0)
most_by_path own h l t p [] = nothing (tunnel_eq own t) (nat_le h.hold p) h.bandwidth
  where
    nothing : (a b : Bool) (n : ℕ) → 0 ≡ (if a && b && false then n else 0)
    nothing true true n = refl
    nothing true false n = refl
    nothing false b n = refl
most_by_path own h l t p (x ∷ xs) =
    first_of_one (x == l) (tunnel_eq own t) h (held_by_path own h l t xs) p
    ∙ one_link (x == l) (tunnel_eq own t) (nat_le h.hold p) h.bandwidth (most (held_by_path own h l t xs) p) (list_any (λ x. x == l) xs) (most_by_path own h l t p xs)

-- the greatest that the tunnel's paths hold on a link is its share there
pub share_is_most : (paths : List Path) (t : Tunnel) (l p : ℕ) → share paths t l p ≡ most (held_by l t paths) p
unfolding share
share_is_most [] t l p = refl
share_is_most (x ∷ xs) t l p =
    let ih : greatest (map (λ y. y.bandwidth) (filter (is_held t l p) xs)) ≡ most (held_by l t xs) p = share_is_most xs t l p in
    let one = most_by_path x.tunnel (held_of x) l t p x.links in
    let all = most_append (held_by_path x.tunnel (held_of x) l t x.links) (held_by l t xs) p in
    let e = tunnel_eq_is x.tunnel t in
    let here : most (held_by_path x.tunnel (held_of x) l t x.links) p ≡ (if is_held t l p x then x.bandwidth else 0) = one ∙ ap (λ b. if b && nat_le x.hold p && has_link l x then x.bandwidth else 0) e in
    elim (cases_Bool (is_held t l p x)) [
      | inl yes_ ↦ (let h : most (held_by_path x.tunnel (held_of x) l t x.links) p ≡ x.bandwidth = here ∙ ap (λ b. if b then x.bandwidth else 0) yes_ in rw yes_ (omega (arith, ih, all, h)))
      | inr no_ ↦ (let h : most (held_by_path x.tunnel (held_of x) l t x.links) p ≡ 0 = here ∙ ap (λ b. if b then x.bandwidth else 0) no_ in rw no_ (omega (arith, ih, all, h)))
    ]
