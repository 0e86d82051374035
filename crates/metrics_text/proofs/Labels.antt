-- Labels end where their texts end.
use Rattle.std.proofs.Common.{◌≡◌, ℕ, ◌<◌, List, [], ◌∷◌, length, refl, arith, codes}
use Rattle.metrics_text.specs.declared.format.LabelText.{LabelText}
use Rattle.metrics_text.specs.Exposition.{labels_text, more_labels}
use Rattle.metrics_text.specs.Rows.{labels_of}

pub no_more : (names : List (List ℕ)) (labels : List LabelText) → length labels < 1 → more_labels names (labels_of labels) ≡ codes "}"
no_more [] [] h = refl
no_more (n ∷ ns) [] h = refl
no_more names (l ∷ ls) h = absurd (omega arith)

pub no_labels : (names : List (List ℕ)) (labels : List LabelText) → length labels < 1 → labels_text names (labels_of labels) ≡ []
no_labels [] [] h = refl
no_labels (n ∷ ns) [] h = refl
no_labels names (l ∷ ls) h = absurd (omega arith)

pub ruleset ending = (no_more, no_labels)
