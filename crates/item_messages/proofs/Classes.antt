-- An ERO whose class is set to that of an RRO is an RRO of the same hops.
use Rattle.std.proofs.Common.{◌≡◌, ℕ, ◌+◌, List, ◌∷◌, ◌++◌, length, refl, ap, ◌∙◌}
use Rattle.std.proofs.Math.ListN.{set}
use Rattle.std.proofs.lemmas.List.{set_at}
use Rattle.byteorder.specs.Endian.{big_bytes}
use Rattle.lsp_words.specs.declared.object.Hop.{Hop}
use Rattle.pcep_objects.specs.Spelling.{hops_written, written}
use Rattle.pcep_objects.specs.declared.object.Object.TheVariants as objects

-- what stands behind the class, of both
abbrev behind : List Hop → List ℕ
behind hops = 16 ∷ (big_bytes 2 (length (hops_written hops) + 4) ++ hops_written hops)

pub reclassed : (old mid : List ℕ) (hops : List Hop) → mid ≡ old ++ written (objects.Ero hops) → set mid (length old) 8 ≡ old ++ written (objects.Rro hops)
reclassed old mid hops e =
    ap (λ (xs : List ℕ). set xs (length old) 8) e ∙ set_at old 7 (behind hops) 8 (length old) refl
