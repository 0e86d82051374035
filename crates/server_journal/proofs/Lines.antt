-- Lines of steps with lines of the time among them.
use Rattle.std.proofs.Common.{◌≡◌, ℕ, ◌+◌, List, [], ◌∷◌, ◌++◌, length, refl, sym, ap, subst, ◌∙◌, arith, append_assoc}
use Rattle.history_core.specs.declared.step.Step.{Step}
use Rattle.line_words.specs.Written.{text_of}
use Rattle.step_lines.specs.Lines.{line_of}
use Rattle.journal_writing.specs.Texts.{placed, lines_of}
use Rattle.server_journal.specs.Writes.{AreMoments, AreLines}

-- the text of lines, one list after the other
pub text_joined : (xs ys : List (List ℕ)) → text_of (xs ++ ys) ≡ text_of xs ++ text_of ys
text_joined [] ys = refl
text_joined (x ∷ xs) ys = ap (λ (t : List ℕ). x ++ 10 ∷ t) (text_joined xs ys) ∙ sym (append_assoc x (10 ∷ text_of xs) (text_of ys))

are_more : (xs ys : List (List ℕ)) → AreMoments xs → AreMoments ys → AreMoments (xs ++ ys)
are_more [] ys are more = more
are_more (x ∷ xs) ys are more = (are.0, are_more xs ys are.1 more)

-- lines with the time may stand in front
pub moments_first : (place : ℕ) (steps : List Step) (moments lines : List (List ℕ)) → AreMoments moments → AreLines place steps lines → AreLines place steps (moments ++ lines)
moments_first place [] moments lines are rest = are_more moments lines are rest
moments_first place (s ∷ steps) moments lines are rest =
    let line : List ℕ = line_of (placed place s) in
    let whole : moments ++ lines ≡ (moments ++ rest.0) ++ line ∷ rest.1 = ap (λ (ls : List (List ℕ)). moments ++ ls) rest.3 ∙ sym (append_assoc moments rest.0 (line ∷ rest.1)) in
    (moments ++ rest.0, rest.1, are_more moments rest.0 are rest.2, whole, rest.4)

-- the lines of steps alone
pub lines_only : (place : ℕ) (steps : List Step) → AreLines place steps (lines_of place steps)
lines_only place [] = tt
lines_only place (s ∷ steps) = ([], lines_of (place + 1) steps, tt, refl, lines_only (place + 1) steps)

-- lines of steps, and then those of the steps that come next
pub lines_joined : (place : ℕ) (xs ys : List Step) (a b : List (List ℕ)) → AreLines place xs a → AreLines (place + length xs) ys b → AreLines place (xs ++ ys) (a ++ b)
lines_joined place [] ys a b before after =
    let same : place + 0 ≡ place = omega arith in
    moments_first place ys a b before (subst (λ (p : ℕ). AreLines p ys b) same after)
lines_joined place (x ∷ xs) ys a b before after =
    let line : List ℕ = line_of (placed place x) in
    let whole : a ++ b ≡ before.0 ++ line ∷ (before.1 ++ b) = ap (λ (ls : List (List ℕ)). ls ++ b) before.3 ∙ append_assoc before.0 (line ∷ before.1) b in
    let same : place + length (x ∷ xs) ≡ (place + 1) + length xs = omega arith in
    (before.0, before.1 ++ b, before.2, whole, lines_joined (place + 1) xs ys before.1 b before.4 (subst (λ (p : ℕ). AreLines p ys b) same after))
