-- The length of a message is set after its bytes were written.
use Rattle.std.proofs.Common.{◌≡◌, ℕ, ◌+◌, List, [], ◌∷◌, ◌++◌, length, ap, ◌∙◌, append_assoc, length-append}
use Rattle.std.proofs.Math.ListN.{set}
use Rattle.std.proofs.lemmas.List.{set_at}

pub mended : (old body mid : List ℕ) (kind high low a b : ℕ) → mid ≡ (old ++ 0x20 ∷ kind ∷ a ∷ b ∷ []) ++ body
    → set (set mid (length old + 2) high) (length old + 3) low ≡ old ++ 0x20 ∷ kind ∷ high ∷ low ∷ body
mended old body mid kind high low a b e =
    let front = old ++ 0x20 ∷ kind ∷ [] in
    let more = old ++ 0x20 ∷ kind ∷ high ∷ [] in
    let one : mid ≡ front ++ a ∷ b ∷ body = e ∙ simp append_assoc in
    let two : front ++ high ∷ b ∷ body ≡ more ++ b ∷ body = simp append_assoc in
    let three : more ++ low ∷ body ≡ old ++ 0x20 ∷ kind ∷ high ∷ low ∷ body = simp append_assoc in
    ap (λ (xs : List ℕ). set (set xs (length old + 2) high) (length old + 3) low) one
    ∙ ap (λ (xs : List ℕ). set xs (length old + 3) low) (set_at front a (b ∷ body) high (length old + 2) (length-append old (0x20 ∷ kind ∷ [])))
    ∙ ap (λ (xs : List ℕ). set xs (length old + 3) low) two
    ∙ set_at more b body low (length old + 3) (length-append old (0x20 ∷ kind ∷ high ∷ []))
    ∙ three
