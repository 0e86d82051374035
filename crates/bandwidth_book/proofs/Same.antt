-- The test of lsp_base for tunnels is equality.
use Rattle.std.proofs.Common.{◌≡◌, ℕ, Bool, true, false, ◌&&◌, ◌==◌, refl, sym, ap, subst, ◌∙◌, arith, inl, inr, true≢false}
use Rattle.std.proofs.lemmas.Bool.{cases_Bool, eqb-true}
use Rattle.std.specs.Cmp.{IsEquivalence}
use Rattle.std.proofs.lemmas.Bool.Decides.{nat_tests}
use Rattle.lsp_base.specs.Same.{same_tunnel}
use Rattle.lsp_base.specs.declared.tunnel.Tunnel.{Tunnel}
use Rattle.lsp_base.specs.declared.tunnel.Tunnel.TheVariants.{Signalled, Unsignalled, Asked}
use Rattle.bandwidth_book.specs.Paths.{tunnel_eq}

four : (a b c d : Bool) → (a && (b && (c && d))) ≡ (((a && b) && c) && d)
four true b c d = three b c d
  where
    three : (b c d : Bool) → (b && (c && d)) ≡ ((b && c) && d)
    three true c d = refl
    three false c d = refl
four false b c d = refl

pub tunnel_eq_is : (a b : Tunnel) → tunnel_eq a b ≡ same_tunnel a b
tunnel_eq_is (Signalled a b c d) (Signalled e f g h) = four (a == e) (b == f) (c == g) (d == h)
tunnel_eq_is (Signalled a b c d) (Unsignalled e f) = refl
tunnel_eq_is (Signalled a b c d) (Asked e f) = refl
tunnel_eq_is (Unsignalled a b) (Signalled e f g h) = refl
tunnel_eq_is (Unsignalled a b) (Unsignalled e f) = refl
tunnel_eq_is (Unsignalled a b) (Asked e f) = refl
tunnel_eq_is (Asked a b) (Signalled e f g h) = refl
tunnel_eq_is (Asked a b) (Unsignalled e f) = refl
tunnel_eq_is (Asked a b) (Asked e f) = refl

both : (a b : Bool) → (a && b) ≡ true → (a ≡ true) × (b ≡ true)
both true b h = (refl, h)
both false b h = absurd (true≢false (sym h))

number_self : (n : ℕ) → (n == n) ≡ true
number_self n = grind (arith, nat_tests)

pub tunnel_is : (a b : Tunnel) → same_tunnel a b ≡ true → a ≡ b
tunnel_is (Signalled a b c d) (Signalled e f g h) s =
    let three = both (a == e && b == f && c == g) (d == h) s in
    let two = both (a == e && b == f) (c == g) three.0 in
    let one = both (a == e) (b == f) two.0 in
    λ i. Signalled (eqb-true a e one.0 i) (eqb-true b f one.1 i) (eqb-true c g two.1 i) (eqb-true d h three.1 i)
tunnel_is (Signalled a b c d) (Unsignalled e f) s = absurd (true≢false (sym s))
tunnel_is (Signalled a b c d) (Asked e f) s = absurd (true≢false (sym s))
tunnel_is (Unsignalled a b) (Signalled e f g h) s = absurd (true≢false (sym s))
tunnel_is (Unsignalled a b) (Unsignalled e f) s = let one = both (a == e) (b == f) s in λ i. Unsignalled (eqb-true a e one.0 i) (eqb-true b f one.1 i)
tunnel_is (Unsignalled a b) (Asked e f) s = absurd (true≢false (sym s))
tunnel_is (Asked a b) (Signalled e f g h) s = absurd (true≢false (sym s))
tunnel_is (Asked a b) (Unsignalled e f) s = absurd (true≢false (sym s))
tunnel_is (Asked a b) (Asked e f) s = let one = both (a == e) (b == f) s in λ i. Asked (eqb-true a e one.0 i) (eqb-true b f one.1 i)

pub tunnel_self : (a : Tunnel) → same_tunnel a a ≡ true
tunnel_self (Signalled a b c d) = rw (number_self a, number_self b, number_self c, number_self d) refl
tunnel_self (Unsignalled a b) = rw (number_self a, number_self b) refl
tunnel_self (Asked a b) = rw (number_self a, number_self b) refl

-- ---- equality of tunnels

pub tunnel_eq_true : (a b : Tunnel) → tunnel_eq a b ≡ true → a ≡ b
tunnel_eq_true a b e = tunnel_is a b (sym (tunnel_eq_is a b) ∙ e)

pub tunnel_eq_self : (a : Tunnel) → tunnel_eq a a ≡ true
tunnel_eq_self a = tunnel_eq_is a a ∙ tunnel_self a

pub tunnel_symm : (a b : Tunnel) → tunnel_eq a b ≡ tunnel_eq b a
tunnel_symm a b =
    elim (cases_Bool (tunnel_eq a b)) [
      | inl here ↦ (let e = tunnel_eq_true a b here in here ∙ sym (subst (λ (t : Tunnel). tunnel_eq t a ≡ true) e (tunnel_eq_self a)))
      | inr other ↦ elim (cases_Bool (tunnel_eq b a)) [
        | inl there ↦ absurd (true≢false (let e = tunnel_eq_true b a there in sym (subst (λ (t : Tunnel). tunnel_eq a t ≡ true) (sym e) (tunnel_eq_self a)) ∙ other))
        | inr apart ↦ other ∙ sym apart
      ]
    ]

pub tunnel_laws : IsEquivalence tunnel_eq
tunnel_laws = record {
  refl = tunnel_eq_self;
  symm = tunnel_symm;
  congr = λ a b c e. ap (λ (t : Tunnel). tunnel_eq t c) (tunnel_eq_true a b e);
}
