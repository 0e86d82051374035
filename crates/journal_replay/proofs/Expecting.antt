-- The lines of an expected base, and where a file begins that is replayed alone.
use Rattle.std.proofs.Common.{◌≡◌, ◌↔◌, ℕ, List, [], ◌∷◌, ◌++◌, refl, sym, ap, ◌∙◌, ◌≢◌, ◌+◌, ◌≤◌, ◌==◌, Bool, true, false, not, Option, Some, None, ◌-◌, length, drop, take, length-drop, Bor, MatchOption, arith}
use Rattle.std.specs.Prelude.{slice_get}
use Rattle.std.specs.Option.{option_copied, option_eq}
use Rattle.std.proofs.Math.Seq.{drop-append-add}
use Rattle.std.proofs.lemmas.Bool.{eq-eqb, eqb-true}
use Rattle.std.proofs.lemmas.List.{drop_all, drop-drop, length-map, take_all}
use Rattle.te_base.specs.Ted.{Ted}
use Rattle.te_base.specs.Values.{IsSameNetwork, Ends, ends_in, values_of, values_in}
use Rattle.step_core.proofs.Reloading.{known_again, state_over-same}
use Rattle.step_core.specs.Bases.{known_in, state_over}
use Rattle.step_core.specs.States.{State}
use Rattle.history_core.specs.Histories.{Content, steps_of}
use Rattle.line_words.specs.Written.{text_of}
use Rattle.journal_replay.specs.Bases.{point_over, base_at, AreExpected}
use Rattle.journal_replay.specs.Replays.{Point, point_of}

made_up : (expected : List ℕ) (lines : List (List ℕ)) → AreExpected expected lines → expected ≡ text_of lines
made_up expected [] h = h
made_up expected (line ∷ lines) h = h.1 ∙ ap (λ (rest : List ℕ). line ++ 10 ∷ rest) (made_up h.0 lines h.2)

taken : (expected : List ℕ) (lines : List (List ℕ)) → expected ≡ text_of lines → AreExpected expected lines
taken expected [] h = h
taken expected (line ∷ lines) h = (text_of lines, h, taken (text_of lines) lines refl)

pub are_expected : (expected : List ℕ) (lines : List (List ℕ)) → AreExpected expected lines ↔ expected ≡ text_of lines
are_expected expected lines = (made_up expected lines, taken expected lines)

-- ---- one line

-- nothing is left once all was taken
pub none_left : (text left : List ℕ) (at long : ℕ) → left ≡ drop at text → at ≤ length text → long ≡ length text → ((at == long) ≡ true → left ≡ []) × (left ≡ [] → (at == long) ≡ true)
none_left text left at long is within e = (
  λ same. is ∙ drop_all at text (let h : at ≡ long = eqb-true at long same in omega (arith, h, e)),
  λ empty. eq-eqb at long (let h : length (drop at text) ≡ 0 = ap length (sym is ∙ empty) in omega (arith, h, length-drop at text, e)),
)

-- the rest of a text, as a slice of it
pub rest_of : (text : List ℕ) (at : ℕ) → take (length text - at) (drop at text) ≡ drop at text
rest_of text at = take_all (length text - at) (drop at text) (omega (arith, length-drop at text))

-- what was looked for isn't in front
pub no_prefix : (found : Option (Bor (List ℕ))) (text line : List ℕ) → MatchOption found ((rest : List ℕ) → text ≢ line ++ rest) (λ x. text ≡ line ++ x.now) → found ≡ None → (rest : List ℕ) → text ≢ line ++ rest
no_prefix None text line h e = h
no_prefix (Some x) text line h e = cc

pub prefix : (found : Option (Bor (List ℕ))) (x : Bor (List ℕ)) (text line : List ℕ) → MatchOption found ((rest : List ℕ) → text ≢ line ++ rest) (λ x. text ≡ line ++ x.now) → found ≡ Some x → text ≡ line ++ x.now
prefix None x text line h e = cc
prefix (Some y) x text line h e = h ∙ ap (λ (z : Bor (List ℕ)). line ++ z.now) (let same : y ≡ x = cc in same)

-- a text begins with the byte that was wanted
pub one_byte : (first : Option (Bor ℕ)) (rest : List ℕ) (wanted : Bor ℕ) (differs : Bool) → option_copied first ≡ slice_get rest 0
    → differs ≡ not (option_eq (λ (x y : Bor ℕ). x.now == y.now) first (Some wanted)) → differs ≡ false → rest ≡ wanted.now ∷ drop 1 rest
one_byte None rest wanted differs is tested same = absurd (let bad : true ≡ false = sym tested ∙ same in cc)
one_byte (Some x) [] wanted differs is tested same = absurd (let bad : Some x.now ≡ None = is in cc)
one_byte (Some x) (y ∷ rest) wanted differs is tested same =
    let here : x.now ≡ y = (let whole : Some x.now ≡ Some y = is in cc) in
    let equal : (x.now == wanted.now) ≡ true = not_not (x.now == wanted.now) (sym tested ∙ same) in
    let byte : y ≡ wanted.now = sym here ∙ eqb-true x.now wanted.now equal in
    ap (λ (b : ℕ). b ∷ rest) byte
  where
    not_not : (b : Bool) → not b ≡ false → b ≡ true
    not_not true e = refl
    not_not false e = cc

-- the text behind a line and its line break
pub behind : (text line left : List ℕ) (at : ℕ) → drop at text ≡ line ++ 10 ∷ left → drop (at + (length line + 1)) text ≡ left
behind text line left at e =
    sym (drop-drop (length line + 1) at text)
    ∙ ap (λ (rest : List ℕ). drop (length line + 1) rest) e
    ∙ drop-append-add line (10 ∷ left) 1

-- ---- where a file begins

same_long : (te now : Ted) → IsSameNetwork te now → length (values_in now) ≡ length te.links
same_long te now same =
    length-map now.links values_of
    ∙ sym (length-map now.links ends_in)
    ∙ sym (ap (λ (ends : List Ends). length ends) same.ends)
    ∙ length-map te.links ends_in

pub begins_there : (te : Ted) (d : Content) → IsSameNetwork te d.state.te → point_over te (base_at d) ≡ point_of d
begins_there te d same =
    let base = known_in d.state in
    let there : state_over te base ≡ d.state = state_over-same te d.state.te base same (same_long te d.state.te same) ∙ known_again d.state base refl in
    ap (λ (s : State). let p : Point = record { state = s; next = steps_of d } in p) there
