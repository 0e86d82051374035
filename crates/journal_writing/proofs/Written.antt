-- The lines of a legal history are as recorded.
use Rattle.std.proofs.Common.{◌≡◌, ◌⊎◌, ℕ, ◌+◌, ◌<◌, ◌==◌, true, false, List, [], ◌∷◌, ◌++◌, length, codes, inl, refl, sym, ap, ◌∙◌, arith}
use Rattle.std.specs.Char.{is_ascii_digit}
use Rattle.std.specs.Fmt.{decimal}
use Rattle.std.specs.Str.{all_ascii_digits}
use Rattle.std.proofs.lemmas.Bool.{and_parts}
use Rattle.std.proofs.lemmas.Bool.Decides.{nat_tests}
use Rattle.std.proofs.lemmas.Fmt.{digits_decimal, decimal_nonempty}
use Rattle.line_words.proofs.Again.{numerals}
use Rattle.step_core.specs.States.{State}
use Rattle.step_core.specs.Steps.{step}
use Rattle.history_core.specs.Histories.{ReplaysFrom}
use Rattle.history_core.specs.declared.step.Step.{Step}
use Rattle.step_lines.specs.Events.{event_words}
use Rattle.step_lines.specs.Lines.{line_of, step_in}
use Rattle.step_lines.specs.Normal.{IsStep}
use Rattle.step_lines.specs.Replies.{reply_text}
use Rattle.step_lines.proofs.StepsAgain.{again}
use Rattle.step_lines.specs.declared.placed.PlacedStep.{PlacedStep}
use Rattle.journal_files.specs.Moments.{is_moment}
use Rattle.journal_replay.specs.Replays.{Point, after, replayed_brief, Takes, AllAsRecorded}
use Rattle.journal_replay.specs.declared.taken.Taken.TheVariants.{AsRecorded}
use Rattle.journal_writing.specs.Texts.{placed, lines_of, AreSteps}

-- a text that begins with a digit is no line with the time
digit_first : (ds rest : List ℕ) → all_ascii_digits ds ≡ true → 0 < length ds → is_moment (ds ++ rest) ≡ false
unfolding is_moment
digit_first [] rest digits some = absurd (omega arith)
digit_first (b ∷ ds) rest digits some =
    let both = and_parts (is_ascii_digit b) (all_ascii_digits ds) digits in
    let other : (97 == b) ≡ false = grind (arith, nat_tests, both.0) in
    rw other refl

-- a step's line begins with the digits of its place
no_moment : (p : PlacedStep) → IsStep p → is_moment (line_of p) ≡ false
unfolding line_of
no_moment p is =
    digit_first (decimal p.place) (codes " " ++ (event_words p.event ++ (codes "= " ++ reply_text p.brief))) (digits_decimal numerals p.place is.place) (decimal_nonempty p.place is.place)

taken : (at : Point) (s : Step) → IsStep (placed at.next s) → s.brief ≡ replayed_brief at.state (placed at.next s)
    → Takes at (line_of (placed at.next s)) AsRecorded (after at (placed at.next s))
taken at s is same =
    let p = placed at.next s in
    rw (no_moment p is, again (line_of p) (step_in (line_of p)) refl p is refl) (refl, same, refl)

abbrev point : State → ℕ → Point
point state next = record { state = state; next = next }

pub all_recorded : (at to : Point) (steps : List Step) → AreSteps at.next steps → ReplaysFrom at.state steps to.state → to.next ≡ at.next + length steps
    → AllAsRecorded at (lines_of at.next steps) to
all_recorded at to [] are replays next =
    let same : to.next ≡ at.next = omega (arith, next) in
    ap (λ (s : State). point s to.next) (sym replays.leads) ∙ ap (λ (n : ℕ). point at.state n) same
all_recorded at to (s ∷ steps) are replays next =
    let p = placed at.next s in
    let rest : to.next ≡ (at.next + 1) + length steps = omega (arith, next) in
    (after at p, inl (taken at s are.0 replays.legal.0), all_recorded (after at p) to steps are.1 (record { legal = replays.legal.1; leads = replays.leads }) rest)
