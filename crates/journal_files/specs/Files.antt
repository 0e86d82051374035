-- The files of a journal, read line by line, and files that are in order.
use Rattle.std.specs.Prelude.{ℕ, ◌≡◌, ◌⊎◌, ◌+◌, ◌==◌, Bool, true, false, List, [], ◌∷◌, ◌++◌, Option, Some, None, if◌then◌else◌}
use Rattle.std.specs.List.{AllByRecursion}
use Rattle.journal_files.specs.Heads.{head_in, is_mark, is_end, place_in}
use Rattle.journal_files.specs.Moments.{is_moment, not_before}
use Rattle.journal_files.specs.Order.{has_steps, at_head, goes_on, at_place, kind_of, after}
use Rattle.journal_files.specs.declared.order.Kind.{Kind}
use Rattle.journal_files.specs.declared.order.Kind.TheVariants as kinds
use Rattle.journal_files.specs.declared.order.Order.{Order}
use Rattle.journal_files.specs.declared.order.Part.TheVariants as parts

-- ---- read

abbrev pub unless_bad : Kind → Option Order → Option Order
unless_bad kinds.Head rest = rest
unless_bad kinds.Text rest = rest
unless_bad kinds.Mark rest = rest
unless_bad kinds.Base rest = rest
unless_bad kinds.End rest = rest
unless_bad kinds.Moment rest = rest
unless_bad kinds.Step rest = rest
unless_bad kinds.Bad rest = None

-- what counts once these lines were read; None if one of them is bad
abbrev pub lines_read : Order → List (List ℕ) → Option Order
lines_read o [] = Some o
lines_read o (line ∷ lines) = unless_bad (kind_of o line) (lines_read (after o line) lines)

-- a file has come to its steps
abbrev pub if_whole : Option Order → Option Order
if_whole None = None
if_whole (Some o) = if has_steps o.part then Some o else None

abbrev pub file_read : Order → List (List ℕ) → Option Order
file_read o lines = if_whole (lines_read (at_head o) lines)

-- ---- in order

-- steps from the place `n` on, one after the other, and moments from `m` on, none of which is before an earlier one; the next
-- place, and the last moment
abbrev pub AreSteps : ℕ → List ℕ → List (List ℕ) → ℕ → List ℕ → Type 0
AreSteps n m [] next last = (next ≡ n) × (last ≡ m)
AreSteps n m (line ∷ lines) next last =
    ((is_moment line ≡ true) × (not_before line m ≡ true) × AreSteps n line lines next last)
    ⊎ ((is_moment line ≡ false) × (at_place n (place_in line) ≡ true) × AreSteps (n + 1) m lines next last)

-- no line of a link text is the line after it
abbrev pub IsText : List (List ℕ) → Type 0
IsText text = AllByRecursion (λ line. is_mark line ≡ false) text

-- the lines of a base, none of which is the line after it, and that line
pub record IsBase (lines : List (List ℕ)) : Type 0 where
  pub items : List (List ℕ)
  pub end : List ℕ
  pub whole : lines ≡ items ++ end ∷ []
  pub are_items : AllByRecursion (λ line. is_end line ≡ false) items
  pub is_ended : is_end end ≡ true

-- nothing comes before the first step of a run, and a base before later ones
abbrev pub HasBase : (is_start : Bool) → List (List ℕ) → Type 0
HasBase true base = base ≡ []
HasBase false base = IsBase base

-- a head, a link text, the line after it, a base unless the steps are those of the run's start, and steps: the file is the first, or of
-- the same run, and goes on where the one before it ended
pub record IsFile (o : Order) (file : List (List ℕ)) (to : Order) : Type 0 where
  pub head : List ℕ
  pub text : List (List ℕ)
  pub mark : List ℕ
  pub base : List (List ℕ)
  pub steps : List (List ℕ)
  pub run : List ℕ
  pub first : ℕ
  pub whole : file ≡ head ∷ (text ++ mark ∷ (base ++ steps))
  pub named : head_in head ≡ Some (run, first)
  pub goes : goes_on o.run o.next run first ≡ true
  pub is_text : IsText text
  pub is_marked : is_mark mark ≡ true
  pub has_base : HasBase (first == 0) base
  pub are_steps : AreSteps first o.moment steps to.next to.moment
  pub known : (to.part ≡ parts.Steps) × (to.run ≡ Some run)
