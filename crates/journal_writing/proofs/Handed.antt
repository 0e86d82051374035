-- Texts that are handed to a writer one after the other.
use Rattle.std.proofs.Common.{◌≡◌, ◌∙◌, ◌<◌, ◌+◌, ℕ, List, [], ◌∷◌, ◌++◌, add-one, append_assoc, drop, drop-cons, get_or, length, Option, sym, ap}
use Rattle.std.specs.Io.KnownBytes.{Appends}
use Rattle.std.proofs.KnownBytes.{Appends-trans}
use Rattle.history_core.specs.declared.step.Step.{Step}
use Rattle.step_lines.specs.Lines.{line_of}
use Rattle.line_words.specs.Written.{text_of}
use Rattle.journal_writing.specs.Texts.{placed, lines_of}

pub two_parts : (a b c : Option (List ℕ)) (first second : List ℕ) → Appends a b first → Appends b c second → Appends a c (first ++ second)
two_parts a b c first second p q = Appends-trans a b c first second p q

next_step : (xs : List Step) (i : ℕ) (x : Step) → i < length xs → x ≡ get_or xs i x → drop i xs ≡ x ∷ drop (i + 1) xs
next_step xs i x less is =
    let cons = drop-cons xs i x less in
    let next = add-one i in
    cc

-- after the line of one more step
pub one_more : (a b c : Option (List ℕ)) (first place i : ℕ) (xs : List Step) (x : Step) (done : List ℕ) → i < length xs → x ≡ get_or xs i x → Appends a b done
    → done ++ text_of (lines_of place (drop i xs)) ≡ text_of (lines_of first xs) → Appends b c (line_of (placed place x) ++ 10 ∷ [])
    → (all : List ℕ) × Appends a c all × (all ++ text_of (lines_of (place + 1) (drop (i + 1) xs)) ≡ text_of (lines_of first xs))
one_more a b c first place i xs x done less is before whole after =
    let line = line_of (placed place x) in
    let rest = text_of (lines_of (place + 1) (drop (i + 1) xs)) in (
      done ++ (line ++ 10 ∷ []),
      Appends-trans a b c done (line ++ 10 ∷ []) before after,
      append_assoc done (line ++ 10 ∷ []) rest
          ∙ ap (λ (t : List ℕ). done ++ t) (append_assoc line (10 ∷ []) rest)
          ∙ ap (λ (ys : List Step). done ++ text_of (lines_of place ys)) (sym (next_step xs i x less is))
          ∙ whole,
    )
