-- Bytes without a line break only make the unfinished line longer.
use Rattle.std.proofs.Common.{◌≡◌, ℕ, zero, suc, ◌+◌, ◌<◌, ◌≤◌, ◌==◌, Bool, true, false, List, [], ◌∷◌, ◌++◌, length, take, drop, get_or, ◌-◌, get_or-drop, length-drop, take-append-drop, append-nil, append_assoc, Option, None, Result, Ok, Err, IfErr, OnOk, refl, sym, ap, subst, ◌∙◌, arith}
use Rattle.std.proofs.lemmas.List.{take_more}
use Rattle.std.proofs.lemmas.Grind.{common_steps}
use Rattle.std.proofs.lemmas.Bool.Decides.{nat_tests}
use Rattle.script_lines.specs.LineAnswer.{line_answer}
use Rattle.pce_engine.specs.Script.{Searches}
use Rattle.pce_engine.specs.declared.fault.ScriptFault.{ScriptFault}
use Rattle.pce_engine.specs.declared.fault.ScriptFault.TheVariants.{OutOfMemory}
use Rattle.pce_engine.specs.declared.script.Script.{Script}
use Rattle.pce_engine.specs.Machine.{Machine, took, MayTake, Goes, LeadsPartly, Halts, Breaks, Feeds}
use Rattle.pce_engine.specs.MachineOf.{machine_of}
use Rattle.pce_engine.proofs.Laws.{took_other}
use Rattle.pce_engine.proofs.Joins.{goes_more, breaks}

-- none of the bytes from one place up to another is a line break
abbrev pub IsUnbroken : List ℕ → ℕ → ℕ → Type 0
IsUnbroken bytes start end = (j : ℕ) → start ≤ j → j < end → (get_or bytes j 0 == 10) ≡ false

-- the first n of the bytes lead there, for answers that the searches may give
abbrev pub Led : List ℕ → ℕ → List ℕ → Machine → List ℕ → Machine → Type 0
Led bytes count old m text n = (answers : Searches) × Goes answers (take count bytes) old m text n

-- the machine with more bytes in its unfinished line
abbrev pub with_more : Machine → List ℕ → Machine
with_more n line = record { stage = n.stage; pending = n.pending ++ line }

-- a byte that is no line break
one_more : (bytes : List ℕ) (i : ℕ) (old : List ℕ) (m : Machine) (text : List ℕ) (n : Machine) → i < length bytes → (get_or bytes i 0 == 10) ≡ false → Led bytes i old m text n
    → Led bytes (i + 1) old m text (with_more n (get_or bytes i 0 ∷ []))
one_more bytes i old m text n within e led =
    let b = get_or bytes i 0 in
    let no : MayTake None n b = λ is. (let t : (b == 10) ≡ true = rw is refl in let bad : true ≡ false = sym t ∙ e in absurd cc) in
    goes_more bytes i old m text n text (with_more n (b ∷ [])) within led (None, [], no, took_other None n b e, sym (append-nil text))

line_more : (bytes : List ℕ) (start d : ℕ) (line : List ℕ) → start + d < length bytes → (line ++ take d (drop start bytes)) ++ get_or bytes (start + d) 0 ∷ [] ≡ line ++ take (suc d) (drop start bytes)
line_more bytes start d line within =
    let rest = drop start bytes in
    let short : d < length rest = let l = length-drop start bytes in omega (arith, within, l) in
    let next : d + 1 ≡ suc d = omega arith in
    let item : get_or rest d 0 ≡ get_or bytes (start + d) 0 = get_or-drop start bytes d 0 in
    append_assoc line (take d rest) (get_or bytes (start + d) 0 ∷ [])
    ∙ ap (λ (b : ℕ). line ++ (take d rest ++ b ∷ [])) (sym item)
    ∙ ap (λ (t : List ℕ). line ++ t) (sym (take_more rest d 0 short))
    ∙ ap (λ (k : ℕ). line ++ take k rest) next

-- the bytes from one place up to another, if none of them is a line break
pub goes_along : (bytes : List ℕ) (start d : ℕ) (old : List ℕ) (m : Machine) (text : List ℕ) (n : Machine) → start + d ≤ length bytes → IsUnbroken bytes start (start + d) → Led bytes start old m text n
    → Led bytes (start + d) old m text (with_more n (take d (drop start bytes)))
goes_along bytes start zero old m text n within unbroken led =
    subst (λ (p : List ℕ). Led bytes (start + 0) old m text (record { stage = n.stage; pending = p })) (sym (append-nil n.pending))
    (subst (λ (i : ℕ). Led bytes i old m text n) (omega arith) led)
goes_along bytes start (suc d) old m text n within unbroken led =
    let before = goes_along bytes start d old m text n (omega (arith, within)) (λ j from below. unbroken j from (omega (arith, below))) led in
    let at = start + d in
    let e : (get_or bytes at 0 == 10) ≡ false = unbroken at (omega arith) (omega arith) in
    let more = one_more bytes at old m text (with_more n (take d (drop start bytes))) (omega (arith, within)) e before in
    subst (λ (i : ℕ). Led bytes i old m text (with_more n (take (suc d) (drop start bytes)))) (omega arith)
    (subst (λ (p : List ℕ). Led bytes (at + 1) old m text (record { stage = n.stage; pending = p })) (line_more bytes start d n.pending (omega (arith, within))) more)

-- the bytes from one place up to another
abbrev pub stretch : List ℕ → ℕ → ℕ → List ℕ
stretch bytes start end = take (end - start) (drop start bytes)

pub goes_to : (bytes : List ℕ) (start end : ℕ) (old : List ℕ) (m : Machine) (text : List ℕ) (n : Machine) → start ≤ end → end ≤ length bytes → IsUnbroken bytes start end → Led bytes start old m text n
    → Led bytes end old m text (with_more n (stretch bytes start end))
goes_to bytes start end old m text n from within unbroken led =
    let same : start + (end - start) ≡ end = omega (arith, from) in
    subst (λ (i : ℕ). Led bytes i old m text (with_more n (stretch bytes start end))) same
    (goes_along bytes start (end - start) old m text n (omega (arith, from, within)) (λ j a b. unbroken j a (omega (arith, b, from))) led)

-- these bytes, and the line break after them
pub goes_past : (bytes : List ℕ) (start end : ℕ) (old : List ℕ) (m : Machine) (text : List ℕ) (n : Machine) (new : List ℕ) (k : Machine) → start ≤ end → end < length bytes → get_or bytes end 0 ≡ 10
    → IsUnbroken bytes start end → Led bytes start old m text n
    → (answer : Option (List ℕ)) × (line : List ℕ) × MayTake answer (with_more n (stretch bytes start end)) 10 × (took answer (with_more n (stretch bytes start end)) 10 ≡ Ok (line_answer line k)) × (new ≡ text ++ line)
    → Led bytes (end + 1) old m new k
goes_past bytes start end old m text n new k from within is unbroken led takes =
    let at = with_more n (stretch bytes start end) in
    goes_more bytes end old m text at new k within (goes_to bytes start end old m text n from (omega (arith, within)) unbroken led)
    (subst (λ (b : ℕ). (answer : Option (List ℕ)) × (line : List ℕ) × MayTake answer at b × (took answer at b ≡ Ok (line_answer line k)) × (new ≡ text ++ line)) (sym is) takes)

-- a fault at that line break
pub breaks_past : (e : ScriptFault) (bytes : List ℕ) (start end : ℕ) (old : List ℕ) (m : Machine) (text : List ℕ) (n : Machine) (new : List ℕ) → start ≤ end → end < length bytes → get_or bytes end 0 ≡ 10
    → IsUnbroken bytes start end → Led bytes start old m text n → Halts n.stage.number e (took None (with_more n (stretch bytes start end)) 10) text new → Breaks e bytes old m new
breaks_past e bytes start end old m text n new from within is unbroken led halts =
    let at = with_more n (stretch bytes start end) in
    breaks e bytes end old m text at new within (goes_to bytes start end old m text n from (omega (arith, within)) unbroken led)
    (subst (λ (b : ℕ). Halts n.stage.number e (took None at b) text new) (sym is) halts)

-- memory ran out at the unfinished line
pub lacks : (bytes : List ℕ) (start : ℕ) (old : List ℕ) (m : Machine) (text : List ℕ) (n : Machine) → Led bytes start old m text n → LeadsPartly bytes old m text n.stage.number
lacks bytes start old m text n led = record {
  front = take start bytes;
  rest = drop start bytes;
  machine = n;
  answers = led.0;
  whole = sym (take-append-drop start bytes);
  leads = led.1;
  numbered = refl;
}

-- all of the bytes
pub goes_through : (bytes : List ℕ) (start : ℕ) (old : List ℕ) (m : Machine) (text : List ℕ) (n : Machine) → start ≤ length bytes → IsUnbroken bytes start (length bytes) → Led bytes start old m text n
    → (answers : Searches) × Goes answers bytes old m text (with_more n (stretch bytes start (length bytes)))
goes_through bytes start old m text n from unbroken led =
    let whole : take (length bytes) bytes ≡ bytes = grind (arith, common_steps) in
    subst (λ (all : List ℕ). (answers : Searches) × Goes answers all old m text (with_more n (stretch bytes start (length bytes)))) whole
    (goes_to bytes start (length bytes) old m text n from (omega arith) unbroken led)

unbroken_at : (k : Bool) (bytes : List ℕ) (start i : ℕ) → IsUnbroken bytes start i → (get_or bytes i 0 == 10) ≡ false → (j : ℕ) → start ≤ j → j < i + 1 → (j == i) ≡ k → (get_or bytes j 0 == 10) ≡ false
unbroken_at true bytes start i unbroken e j from below h = let same : j ≡ i = grind (arith, nat_tests) in rw same e
unbroken_at false bytes start i unbroken e j from below h = let less : j < i = grind (arith, nat_tests) in unbroken j from less

-- one more byte that is no line break
pub unbroken_more : (bytes : List ℕ) (start i : ℕ) → IsUnbroken bytes start i → (get_or bytes i 0 == 10) ≡ false → IsUnbroken bytes start (i + 1)
unbroken_more bytes start i unbroken e j from below = unbroken_at (j == i) bytes start i unbroken e j from below refl

-- the machine after bytes were added to its unfinished line
pub grown : (s t : Script) (line : List ℕ) → t.stage ≡ s.stage → t.pending.items ≡ s.pending.items ++ line → machine_of t ≡ with_more (machine_of s) line
grown s t line same more = rw (same, more) refl

-- what is left after the last line break was taken
pub fed_last : {X : Type 0} → (r : Result X ScriptFault) (bytes : List ℕ) (start : ℕ) (old : List ℕ) (m : Machine) (text : List ℕ) (s t : Script) → start ≤ length bytes → IsUnbroken bytes start (length bytes) → Led bytes start old m text (machine_of s)
    → t.stage ≡ s.stage → OnOk r (t.pending.items ≡ s.pending.items ++ stretch bytes start (length bytes)) → IfErr r (λ fault. fault ≡ OutOfMemory s.stage.number) → Feeds r bytes old m text (machine_of t)
fed_last (Ok x) bytes start old m text s t from unbroken led same ok err =
    subst (λ (k : Machine). (answers : Searches) × Goes answers bytes old m text k) (sym (grown s t (stretch bytes start (length bytes)) same ok)) (goes_through bytes start old m text (machine_of s) from unbroken led)
fed_last (Err fault) bytes start old m text s t from unbroken led same ok err =
    subst (λ (f : ScriptFault). Breaks f bytes old m text) (sym err) (lacks bytes start old m text (machine_of s) led)
