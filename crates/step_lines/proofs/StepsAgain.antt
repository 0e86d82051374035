-- A line reads as its step, and as no other.
use Rattle.std.proofs.Common.{◌≡◌, ℕ, ◌&&◌, Bool, true, false, List, [], ◌∷◌, ◌++◌, length, Option, Some, None, IfSome, nat_le, if◌then◌else◌, refl, sym, ap, ◌∙◌, append_assoc, rules, tests}
use Rattle.std.specs.Fmt.{decimal}
use Rattle.std.specs.Str.{bytes_eq}
use Rattle.std.specs.Bool.{Decides}
use Rattle.std.proofs.lemmas.Slice.Eq.{bytes_eq-Decides}
use Rattle.line_words.specs.Words.{is_equals, cut_at_equals}
use Rattle.line_words.proofs.Again.{cut_found, ends, number_word as number_is_word, number_again, no_equals}
use Rattle.step_lines.specs.Replies.{reply_text}
use Rattle.step_lines.specs.Events.{event_words}
use Rattle.step_lines.specs.Lines.{has_line, line_of, line_limit, likely_step, if_written, step_in}
use Rattle.step_lines.specs.Normal.{IsStep}
use Rattle.step_lines.specs.declared.placed.PlacedStep.{PlacedStep}
use Rattle.step_lines.proofs.EventsAgain.{event_again}
use Rattle.step_lines.proofs.RepliesAgain.{reply_again}
use Rattle.step_lines.proofs.Equals as equals

-- the line up to its `=`
abbrev front : PlacedStep → List ℕ
front s = decimal s.place ++ 32 ∷ event_words s.event

front_plain : (s : PlacedStep) → IsStep s → equals.Plain (front s)
front_plain s is =
    equals.both (decimal s.place) (32 ∷ event_words s.event) (no_equals (decimal s.place) (number_is_word s.place is.place)) (equals.events s.event is.event)

-- the line, cut at its `=`
in_halves : (s : PlacedStep) → line_of s ≡ front s ++ 61 ∷ 32 ∷ reply_text s.brief
unfolding line_of
in_halves s = sym (append_assoc (decimal s.place) (32 ∷ event_words s.event) (61 ∷ 32 ∷ reply_text s.brief))

halves : (s : PlacedStep) → IsStep s → cut_at_equals (line_of s) ≡ Some (front s, 32 ∷ reply_text s.brief)
halves s is = ap cut_at_equals (in_halves s) ∙ cut_found is_equals (front s) 61 (32 ∷ reply_text s.brief) refl (front_plain s is)

likely_again : (s : PlacedStep) → IsStep s → likely_step (line_of s) ≡ Some s
unfolding likely_step
likely_again s is =
    rw (
      halves s is,
      ends (decimal s.place) (event_words s.event) (number_is_word s.place is.place),
      number_again 64 s.place is.place is.place,
      ends [] (reply_text s.brief) refl,
      event_again s.event is.event is.written,
      reply_again s.brief is.brief,
    )
    refl

same_bytes : (bs : List ℕ) → bytes_eq bs bs ≡ true
same_bytes bs = (bytes_eq-Decides bs bs).1 refl

pub line_again : (s : PlacedStep) → IsStep s → step_in (line_of s) ≡ Some s
unfolding step_in
line_again s is =
    let short : nat_le (length (line_of s)) line_limit ≡ true = search (rules, tests, is.small) in
    rw (short, likely_again s is, is.written, same_bytes (line_of s)) refl

pub again : (line : List ℕ) (found : Option PlacedStep) → found ≡ step_in line → (s : PlacedStep) → IsStep s → line ≡ line_of s → found ≡ Some s
again line found e s is same = e ∙ ap step_in same ∙ line_again s is

-- ---- and nothing else does

by_test : (t : Bool) (line : List ℕ) (s : PlacedStep) → Decides t (line_of s ≡ line) → IfSome (if t then Some s else None) (λ step. line ≡ line_of step)
by_test true line s same = sym (same.0 refl)
by_test false line s other = tt

both_tests : (h t : Bool) (line : List ℕ) (s : PlacedStep) → Decides t (line_of s ≡ line) → IfSome (if h && t then Some s else None) (λ step. line ≡ line_of step)
both_tests true t line s d = by_test t line s d
both_tests false t line s d = tt

written_only : (line : List ℕ) (likely : Option PlacedStep) → IfSome (if_written line likely) (λ step. line ≡ line_of step)
written_only line None = tt
written_only line (Some s) = both_tests (has_line s.event) (bytes_eq (line_of s) line) line s (bytes_eq-Decides (line_of s) line)

short_only : (short : Bool) (line : List ℕ) (likely : Option PlacedStep) → IfSome (if short then if_written line likely else None) (λ step. line ≡ line_of step)
short_only true line likely = written_only line likely
short_only false line likely = tt

pub only_its_line : (line : List ℕ) (found : Option PlacedStep) → found ≡ step_in line → IfSome found (λ step. line ≡ line_of step)
unfolding step_in
only_its_line line found e = rw e (short_only (nat_le (length line) line_limit) line (likely_step line))
