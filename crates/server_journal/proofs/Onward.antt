-- A journal that has gone on goes on further.
use Rattle.std.proofs.Common.{◌≡◌, ℕ, zero, suc, ◌+◌, List, [], ◌∷◌, ◌++◌, length, take, drop, Option, Result, Ok, Err, OnOk, refl, sym, ap, subst, ◌∙◌, arith, length-append, length-take, take-add, drop-drop}
use Rattle.std.specs.Io.KnownBytes.{Appends}
use Rattle.std.proofs.KnownBytes.{Appends-trans}
use Rattle.std.proofs.lemmas.List.{take-append-le}
use mathlib.Core.List.{IsPrefix}
use Rattle.te_base.specs.Ted.{Ted}
use Rattle.step_core.specs.declared.event.Event.{Event}
use Rattle.step_core.specs.Steps.{step}
use Rattle.step_core.specs.States.{State, empty}
use Rattle.history_core.specs.declared.step.Step.{Step}
use Rattle.history_core.specs.Histories.{kept_step}
use Rattle.history_tokens.specs.declared.rule.Happening.{Happening}
use Rattle.history_tokens.specs.declared.rule.Happening.TheVariants.{Took, Rolled}
use Rattle.history_seats.specs.Past.{steps_from, steps_at}
use Rattle.line_words.specs.Written.{text_of}
use Rattle.journal_writing.specs.Steps.{most_seen}
use Rattle.server_journal.specs.Writes.{WritesOn, AreLines, GoesOn}
use Rattle.server_journal.proofs.Following.{by_one, stays}
use Rattle.server_journal.proofs.Lines.{text_joined, lines_joined}

-- ---- of what more has happened, the steps stand where they stood

steps_on : (s : State) (xs ys : List (Happening Event)) → IsPrefix (steps_from s xs) (steps_from s (xs ++ ys))
steps_on s [] ys = (steps_from s ys, refl)
steps_on s (Took e ∷ xs) ys =
    let rest = steps_on (step s e).state xs ys in
    (rest.0, ap (λ (steps : List Step). kept_step e (step s e).reply ∷ steps) rest.1)
steps_on s (Rolled ∷ xs) ys = steps_on s xs ys

steps_more : (text : Ted) (past more : List (Happening Event)) → IsPrefix past more → IsPrefix (steps_at text past) (steps_at text more)
unfolding steps_at
steps_more text past more p = subst (λ (h : List (Happening Event)). IsPrefix (steps_from (empty text) past) (steps_from (empty text) h)) p.1 (steps_on (empty text) past p.0)

front_stays : (n : ℕ) (xs ys : List Step) → length (take n xs) ≡ n → take n (xs ++ ys) ≡ take n xs
front_stays n xs ys full = let long = length-take n xs in take-append-le n xs ys (omega (arith, long, full))

none_taken : (n : ℕ) (steps : List Step) → steps ≡ [] → length (take n steps) ≡ n → n ≡ 0
none_taken n [] empty full = let none = length-take {A = Step} n [] in omega (arith, none, full)
none_taken n (x ∷ xs) empty full = absurd (omega (arith, ap length empty))

part_stays : (n from : ℕ) (xs ys : List Step) → length (take n (drop from xs)) ≡ n → take n (drop from (xs ++ ys)) ≡ take n (drop from xs)
part_stays n zero xs ys full = front_stays n xs ys full
part_stays n (suc from) [] ys full =
    let none : List Step = [] in
    subst (λ (k : ℕ). take k (drop (suc from) ys) ≡ take k none) (sym (none_taken n [] refl full)) refl
part_stays n (suc from) (x ∷ xs) ys full = part_stays n from xs ys full

steps_stay : (text : Ted) (past more : List (Happening Event)) (n from : ℕ) → IsPrefix past more → length (take n (drop from (steps_at text past))) ≡ n
    → take n (drop from (steps_at text more)) ≡ take n (drop from (steps_at text past))
steps_stay text past more n from begins full =
    let whole = steps_more text past more begins in
    ap (λ (steps : List Step). take n (drop from steps)) (sym whole.1) ∙ part_stays n from (steps_at text past) whole.0 full

-- ---- further

two_takes : (n m from : ℕ) (steps : List Step) → take (n + m) (drop from steps) ≡ take n (drop from steps) ++ take m (drop (from + n) steps)
two_takes n m from steps = take-add n m (drop from steps) ∙ ap (λ (rest : List Step). take n (drop from steps) ++ take m rest) (drop-drop n from steps)

none_left : (steps : List Step) → length (take most_seen steps) ≡ 0 → steps ≡ []
none_left [] none = refl
none_left (x ∷ xs) none = let long = length-take most_seen (x ∷ xs) in absurd (omega (arith, long, none))

-- a journal that has gone on goes on further, and more has happened meanwhile
pub further : (text : Ted) (past more : List (Happening Event)) (from mid to : ℕ) (a b c : Option (List ℕ)) → GoesOn text past from mid a b → IsPrefix past more → GoesOn text more mid to b c → GoesOn text more from to a c
further text past more from mid to a b c one begins other =
    let n : ℕ = one.count in
    let m : ℕ = other.count in
    let first : List Step = take n (drop from (steps_at text more)) in
    let second : List Step = take m (drop (from + n) (steps_at text more)) in
    let stays : first ≡ take n (drop from (steps_at text past)) = steps_stay text past more n from begins one.taken in
    let long : length first ≡ n = ap length stays ∙ one.taken in
    let there : mid ≡ from + n = one.next in
    let same : take m (drop mid (steps_at text more)) ≡ second = ap (λ (k : ℕ). take m (drop k (steps_at text more))) there in
    let also : length second ≡ m = ap length (sym same) ∙ other.taken in
    let both : take (n + m) (drop from (steps_at text more)) ≡ first ++ second = two_takes n m from (steps_at text more) in
    let place : mid ≡ from + length first = there ∙ ap (λ (k : ℕ). from + k) (sym long) in
    let before : AreLines from first one.lines = subst (λ (steps : List Step). AreLines from steps one.lines) (sym stays) one.are in
    let after : AreLines mid second other.lines = subst (λ (steps : List Step). AreLines mid steps other.lines) same other.are in
    let all : AreLines from (first ++ second) (one.lines ++ other.lines) =
    lines_joined from first second one.lines other.lines before (subst (λ (k : ℕ). AreLines k second other.lines) place after) in
    let text_is : text_of one.lines ++ text_of other.lines ≡ text_of (one.lines ++ other.lines) = sym (text_joined one.lines other.lines) in
    let added : length (first ++ second) ≡ length first + length second = length-append first second in
    record {
      count = n + m;
      next = (let on : to ≡ mid + m = other.next in omega (arith, there, on));
      taken = (let whole : length (take (n + m) (drop from (steps_at text more))) ≡ length (first ++ second) = ap length both in omega (arith, whole, added, long, also));
      lines = one.lines ++ other.lines;
      are = subst (λ (steps : List Step). AreLines from steps (one.lines ++ other.lines)) (sym both) all;
      written = subst (λ (t : List ℕ). Appends a c t) text_is (Appends-trans a b c (text_of one.lines) (text_of other.lines) one.written other.written);
    }

-- more has happened, and nothing was written
pub seen_on : (text : Ted) (past more : List (Happening Event)) (from to : ℕ) (a b : Option (List ℕ)) → GoesOn text past from to a b → IsPrefix past more → GoesOn text more from to a b
seen_on text past more from to a b one begins = further text past more from to to a b b one begins (stays text more to b)

-- after a turn more was seen, and nothing else was written
pub seen_after : (text : Ted) (past mid more : List (Happening Event)) (from turned to last : ℕ) (a b c : Option (List ℕ)) → GoesOn text past from turned a b → IsPrefix past mid → GoesOn text mid turned to b c → IsPrefix mid more → last ≡ to
    → GoesOn text more from last a c
seen_after text past mid more from turned to last a b c one begins other on same =
    let both = further text past mid from turned to a b c one begins other in
    subst (λ (k : ℕ). GoesOn text more from k a c) (sym same) (seen_on text mid more from to a c both on)

-- a turn goes on by its second part, if that ends well
pub then_more : {T E : Type 0} (r : Result T E) (text : Ted) (past more : List (Happening Event)) (from mid to : ℕ) (a b c : Option (List ℕ))
    → WritesOn text past from mid a b → IsPrefix past more → OnOk r (WritesOn text more mid to b c) → OnOk r (GoesOn text more from to a c)
then_more (Ok x) text past more from mid to a b c one begins other =
    further text past more from mid to a b c (by_one text past from mid a b one) begins (by_one text more mid to b c other)
then_more (Err e) text past more from mid to a b c one begins other = tt

-- if none comes next, all were written
pub all_taken : (text : Ted) (past : List (Happening Event)) (from to count : ℕ) → count ≡ length (take most_seen (drop from (steps_at text past))) → to ≡ from + count → count ≡ 0 → drop to (steps_at text past) ≡ []
all_taken text past from to count is next none =
    let there : to ≡ from = omega (arith, next, none) in
    ap (λ (k : ℕ). drop k (steps_at text past)) there ∙ none_left (drop from (steps_at text past)) (sym is ∙ none)
