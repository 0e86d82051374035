-- Only the line `end` asks for the end of the run: no line with names stands for it.
use Rattle.std.proofs.Common.{◌≡◌, ◌≢◌, ◌∙◌, ℕ, suc, ◌+◌, not, Bool, true, false, List, [], ◌∷◌, ◌++◌, Option, Some, None, codes, length, take, drop, append_assoc, nat_le, nat_lt, ◌&&◌, refl, sym, ap, inl, inr, rules, tests, arith}
use Rattle.std.specs.List.{list_all, position_or_len}
use Rattle.std.specs.Str.{bytes_eq, is_utf8}
use Rattle.std.proofs.Math.Seq.{take-append_seam}
use Rattle.std.proofs.lemmas.Bool.{and_parts, cases_Bool}
use Rattle.std.proofs.lemmas.List.{drop_at, length-append}
use Rattle.std.proofs.lemmas.Slice.Eq.{bytes_eq-Decides}
use Rattle.step_core.specs.declared.event.Event.{Event}
use Rattle.asks.specs.Places.{ends_words, question_in, wrong_from_in, wrong_peer_in, wrong_to_in}
use Rattle.asks.specs.Words.{cut_at_space, is_space}
use Rattle.line_names.specs.Plain.{has_names, plain_behind, plain_cut, plain_line, plain_rest, plain_words}
use Rattle.line_names.specs.declared.plain.Named.{Named}
use Rattle.script_lines.specs.Views.{view_line_in}
use Rattle.script_lines.specs.Commands.{operator_event_in}
use Rattle.script_lines.specs.declared.views.ViewLine.{ViewLine}
use Rattle.server_talk.specs.Naming.{StandsFor, is_named}
use Rattle.server_talk.specs.Naming.StandsFor.{Itself, Plain}
use Rattle.server_talk.specs.Requests.{bare, explained_in, line_limit, request_in, request_of, view_or_event}
use Rattle.server_talk.specs.declared.requests.Request.TheVariants.{Book, Check, End, Reload}
use Rattle.server_talk.specs.Servers.{Server}

-- ---- a line is cut at its first space

abbrev HasNoSpace : List ℕ → Type 0
HasNoSpace text = list_all (λ b. not (is_space b)) text ≡ true

-- no space stands before the first one
none_before : (text : List ℕ) → HasNoSpace (take (position_or_len is_space text) text)
none_before [] = refl
none_before (b ∷ text) =
    let more : 1 + position_or_len is_space text ≡ suc (position_or_len is_space text) = omega arith in
    elim (cases_Bool (is_space b)) [
      | inl space ↦ rw space refl
      | inr other ↦ rw (other, more, other) (none_before text)
    ]

off : (t : Bool) → not t ≡ true → t ≡ false
off true h = cc
off false h = refl

found_at : (word rest : List ℕ) → HasNoSpace word → position_or_len is_space (word ++ 32 ∷ rest) ≡ length word
found_at [] rest none = refl
found_at (b ∷ word) rest none =
    let parts = and_parts (not (is_space b)) (list_all (λ b. not (is_space b)) word) none in
    let more : 1 + length word ≡ suc (length word) = omega arith in
    rw (off (is_space b) parts.0) (ap (λ (n : ℕ). 1 + n) (found_at word rest parts.1) ∙ more)

cut_found : (word rest : List ℕ) → HasNoSpace word → cut_at_space (word ++ 32 ∷ rest) ≡ Some (word, rest)
cut_found word rest none =
    let whole : length (word ++ 32 ∷ rest) ≡ length word + suc (length rest) = length-append word (32 ∷ rest) in
    let within : nat_lt (length word) (length (word ++ 32 ∷ rest)) ≡ true = search (rules, tests) in
    let one : length (word ++ 32 ∷ []) ≡ length word + 1 = length-append word (32 ∷ []) in
    let behind : drop (length word + 1) (word ++ 32 ∷ rest) ≡ rest = ap (drop (length word + 1)) (sym (append_assoc word (32 ∷ []) rest)) ∙ drop_at (word ++ 32 ∷ []) rest (length word + 1) one in
    rw (found_at word rest none, within, take-append_seam word (32 ∷ rest), behind) refl

-- the first word of a line has no space
first_word : (text : List ℕ) (cut : List ℕ × List ℕ) → cut_at_space text ≡ Some cut → HasNoSpace cut.0
first_word text cut is =
    elim (cases_Bool (nat_lt (position_or_len is_space text) (length text))) [
      | inl within ↦ (let same : Some (take (position_or_len is_space text) text, drop (position_or_len is_space text + 1) text) ≡ Some cut = rw within at is in
          let word : take (position_or_len is_space text) text ≡ cut.0 = cc in rw word at (none_before text))
      | inr past ↦ (let none : None ≡ Some cut = rw past at is in absurd cc)
    ]

-- ---- what asks for the end

other_request : (view : Option ViewLine) (event : Option Event) → view_or_event view event ≢ Some End
other_request (Some view) event = λ is. cc
other_request None (Some event) = λ is. cc
other_request None None = λ is. cc

end_text : (line : List ℕ) → request_in line ≡ Some End → line ≡ codes "end"
unfolding request_in
end_text line is =
    elim (cases_Bool (bytes_eq line (codes "end"))) [
      | inl same ↦ (bytes_eq-Decides line (codes "end")).0 same
      | inr apart ↦ absurd (
          elim (cases_Bool (bytes_eq line (codes "book"))) [
            | inl book ↦ (let other : Some Book ≡ Some End = rw book at is in cc)
            | inr b ↦ elim (cases_Bool (bytes_eq line (codes "reload"))) [
              | inl reload ↦ (let other : Some Reload ≡ Some End = rw (b, apart, reload) at is in cc)
              | inr r ↦ elim (cases_Bool (bytes_eq line (codes "reload check"))) [
                | inl check ↦ (let other : Some Check ≡ Some End = rw (b, apart, r, check) at is in cc)
                | inr c ↦ other_request (view_line_in line) (operator_event_in line) (rw (b, apart, r, c) at is)
              ]
            ]
          ])
    ]

end_of_bare : (line : List ℕ) → request_of line ≡ Some End → bare line ≡ codes "end"
unfolding request_of
end_of_bare line is =
    elim (cases_Bool (nat_le (length line) line_limit && is_utf8 line)) [
      | inl good ↦ end_text (bare line) (rw good at is)
      | inr bad ↦ (let none : None ≡ Some End = rw bad at is in absurd cc)
    ]

-- ---- lines with names

-- a text with a space isn't `end`
has_space : (word rest : List ℕ) → list_all (λ b. not (is_space b)) (word ++ 32 ∷ rest) ≡ false
has_space [] rest = refl
has_space (b ∷ word) rest =
    elim (cases_Bool (not (is_space b))) [
      | inl other ↦ rw other (has_space word rest)
      | inr space ↦ rw space refl
    ]

spaced : (word rest : List ℕ) → word ++ 32 ∷ rest ≢ codes "end"
spaced word rest is = let none : true ≡ false = rw is at (has_space word rest) in cc

-- a line whose first word isn't `words` has nothing to be left out
not_words : (word rest : List ℕ) → HasNoSpace word → bytes_eq word (codes "words") ≡ false → bare (word ++ 32 ∷ rest) ≡ word ++ 32 ∷ rest
unfolding bare explained_in
not_words word rest none other = rw (cut_found word rest none, other) refl

-- a line with names has a second word, and its first isn't `words`
nameless_alone : (line : List ℕ) → cut_at_space line ≡ None → has_names line ≡ false
unfolding wrong_peer_in wrong_from_in wrong_to_in ends_words
nameless_alone line alone = rw (alone, alone) refl

nameless_words : (line rest : List ℕ) → cut_at_space line ≡ Some (codes "words", rest) → has_names line ≡ false
unfolding wrong_peer_in wrong_from_in wrong_to_in ends_words
nameless_words line rest is = rw (is, is) refl

no_end_behind : (named : Named) (line : List ℕ) (cut : Option (List ℕ × List ℕ)) → cut_at_space line ≡ cut → has_names line ≡ true → bare (plain_cut named line cut) ≢ codes "end"
no_end_behind named line None is has end = (let none : true ≡ false = sym has ∙ nameless_alone line is in cc)
no_end_behind named line (Some cut) is has end =
    elim (cases_Bool (bytes_eq cut.0 (codes "words"))) [
      | inl words ↦ (
          let word : cut.0 ≡ codes "words" = (bytes_eq-Decides cut.0 (codes "words")).0 words in
          let none : true ≡ false = sym has ∙ nameless_words line cut.1 (is ∙ ap (λ (w : List ℕ). Some (w, cut.1)) word) in
          cc)
      | inr other ↦ spaced cut.0 (plain_rest named cut.0 cut.1) (sym (not_words cut.0 (plain_rest named cut.0 cut.1) (first_word line cut is) other) ∙ end)
    ]

no_end_asked : (named : Named) (line : List ℕ) (question : Option (List ℕ)) → has_names line ≡ true → bare (plain_behind named line question) ≢ codes "end"
no_end_asked named line None has end = no_end_behind named line (cut_at_space line) refl has end
no_end_asked named line (Some rest) has end =
    spaced (codes "json") (plain_words named rest) (sym (not_words (codes "json") (plain_words named rest) refl refl) ∙ end)

-- no line with names stands for one that asks for the end
no_end : (named : Named) (line : List ℕ) → has_names line ≡ true → bare (plain_line named line) ≢ codes "end"
unfolding plain_line
no_end named line has = no_end_asked named line (question_in line) has

has_them : (line : List ℕ) → is_named line ≡ true → has_names (bare line) ≡ true
unfolding is_named
has_them line is = (and_parts (nat_le (length line) line_limit && is_utf8 line) (has_names (bare line)) is).1

-- The line that a line stands for asks for the end only where the line itself does.
pub asks_itself : {S : Type 0} {server : Server S} (now : S) (line plain : List ℕ) → StandsFor server now line plain → request_of plain ≡ Some End → request_of line ≡ Some End
asks_itself now line plain (Itself none) is = is
asks_itself now line plain (Plain named some given) is = absurd (no_end named (bare line) (has_them line some) (end_of_bare (plain_line named (bare line)) is))
