-- Which LSPs are watched after another one is noted.
use Rattle.std.proofs.Common.{◌≡◌, ℕ, ◌<◌, ◌≤◌, ◌++◌, [], ◌∷◌, Bool, true, false, cond, List, length, nat_lt, sym, ap, ◌∙◌, arith}
use Rattle.std.proofs.lemmas.Bool.Decides.{nat_tests}
use Rattle.server_rules.specs.declared.pausing.Trial.{Trial}
use Rattle.server_rules.specs.Pauses.{others, with_trial}

module _ (t : Trial) (ts rest : List Trial) (is : rest ≡ others t ts) where
  less : (n : ℕ) → n < 64 → nat_lt n 64 ≡ true
  less n lt = grind (arith, nat_tests)

  more : (n : ℕ) → 64 ≤ n → nat_lt n 64 ≡ false
  more n le = grind (arith, nat_tests)

  pub with_room : length rest < 64 → rest ++ t ∷ [] ≡ with_trial t ts
  with_room room =
      ap (λ (us : List Trial). us ++ t ∷ []) is
      ∙ sym (ap (λ (b : Bool). cond b (others t ts ++ t ∷ []) (others t ts)) (ap (λ (us : List Trial). nat_lt (length us) 64) (sym is) ∙ less (length rest) room))

  pub without_room : 64 ≤ length rest → rest ≡ with_trial t ts
  without_room full =
      is ∙ sym (ap (λ (b : Bool). cond b (others t ts ++ t ∷ []) (others t ts)) (ap (λ (us : List Trial). nat_lt (length us) 64) (sym is) ∙ more (length rest) full))
