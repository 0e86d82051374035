-- LSPs beside what their tunnels hold.
use Rattle.std.proofs.Common.{◌≡◌, ℕ, ◌≤◌, min, List, [], ◌∷◌, length, drop, refl, arith, inl, inr}
use Rattle.std.specs.Prelude.{Option, Some, None}
use Rattle.std.proofs.lemmas.Bool.{cases_lt}
use Rattle.std.proofs.lemmas.List.{drop_all}
use Rattle.pcep_word.specs.Word.{bandwidth_of, magnitude, mantissa, rounded_up, scale}
use Rattle.te_snapshot.specs.declared.own.OwnShare.{OwnShare}
use Rattle.pce_seen.specs.declared.lsps.KnownLsp.{KnownLsp}
use Rattle.pce_view.specs.Without.{movers_of}

-- the word of one byte per second
pub one_byte : bandwidth_of 1065353216 ≡ Some 1
unfolding bandwidth_of rounded_up magnitude mantissa scale
one_byte = refl

abbrev pub number_in : Option ℕ → ℕ
number_in None = 0
number_in (Some n) = n

nothing_held : (lsps : List KnownLsp) → movers_of lsps [] ≡ []
nothing_held [] = refl
nothing_held (lsp ∷ lsps) = refl

-- past the LSPs, or past what their tunnels hold, nobody is left
pub movers_done : (n : ℕ) (lsps : List KnownLsp) (owns : List (List OwnShare)) → min (length lsps) (length owns) ≤ n → movers_of (drop n lsps) (drop n owns) ≡ []
movers_done n lsps owns done =
    elim (cases_lt n (length lsps)) [
      | inl less ↦ rw (drop_all n owns (omega arith)) (nothing_held (drop n lsps))
      | inr most ↦ rw (drop_all n lsps most) refl
    ]
