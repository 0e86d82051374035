-- The searches of a first piece and of what follows it are the searches of both.
use Rattle.std.proofs.Common.{◌≡◌, ℕ, ◌+◌, ◌<◌, ◌≤◌, ◌==◌, suc, Bool, true, false, cond, List, [], ◌∷◌, ◌++◌, length, take, drop, get_or, drop-cons, take-append-drop, Option, Some, None, Result, Ok, Err, IfOk, nat_lt, refl, sym, ap, subst, ◌∙◌, arith, rules, tests}
use Rattle.std.proofs.lemmas.List.{take_more}
use Rattle.std.proofs.lemmas.Bool.Decides.{nat_tests}
use Rattle.pce_engine.specs.declared.fault.ScriptFault.{ScriptFault}
use Rattle.pce_engine.specs.declared.fault.ScriptFault.TheVariants.{BadLine, Te, ReadFault, WriteFault, OutOfMemory, HistoryFull}
use Rattle.script_lines.specs.LineAnswer.{LineAnswer, line_answer}
use Rattle.pce_engine.specs.Script.{Searches, Stage, answer_of_line}
use Rattle.pce_engine.specs.Machine.{Machine, Fed, after_line, took, fed_on, fed, MayTake, AllowedBytes, Leads, Goes, Halts, Breaks}
use Rattle.pce_engine.proofs.Laws.{took_break, took_other, next_answer, fed_append}

-- the answers of a for lines before this number, and those of b from it on
abbrev pub joined : Searches → Searches → ℕ → Searches
joined a b number = λ i. cond (nat_lt i number) (a i) (b i)

pub joined_before : (a b : Searches) (number i : ℕ) → i < number → joined a b number i ≡ a i
joined_before a b number i h = let e : nat_lt i number ≡ true = search (rules, tests) in rw e refl

pub joined_from : (a b : Searches) (number i : ℕ) → number ≤ i → joined a b number i ≡ b i
joined_from a b number i h = let e : nat_lt i number ≡ false = grind (arith, nat_tests) in rw e refl

-- ---- numbers rise

line_rises : (answer : Option (List ℕ)) (m : Machine) (r : Result (LineAnswer Stage) ScriptFault) (t : LineAnswer Machine) → answer_of_line answer m.stage m.pending ≡ r → after_line r ≡ Ok t → t.after.stage.number ≡ m.stage.number + 1
line_rises answer m (Ok r) t e h =
    let same : line_answer r.text (record { stage = r.after; pending = [] }) ≡ t = cc in
    ap (λ (u : LineAnswer Machine). u.after.stage.number) (sym same) ∙ next_answer answer m.stage m.pending r e
line_rises answer m (Err fault) t e h = cc

-- a line break advances to the next number
break_rises : (answer : Option (List ℕ)) (m : Machine) (b : ℕ) (t : LineAnswer Machine) → (b == 10) ≡ true → took answer m b ≡ Ok t → t.after.stage.number ≡ m.stage.number + 1
break_rises answer m b t e h = line_rises answer m (answer_of_line answer m.stage m.pending) t refl (sym (took_break answer m b e) ∙ h)

other_stays : (answer : Option (List ℕ)) (m : Machine) (b : ℕ) (t : LineAnswer Machine) → (b == 10) ≡ false → took answer m b ≡ Ok t → t.after.stage.number ≡ m.stage.number
other_stays answer m b t e h =
    let same : line_answer [] (record { stage = m.stage; pending = m.pending ++ b ∷ [] }) ≡ t = let g = sym (took_other answer m b e) ∙ h in cc in
    ap (λ (u : LineAnswer Machine). u.after.stage.number) (sym same)

took_rises_at : (k : Bool) (answer : Option (List ℕ)) (m : Machine) (b : ℕ) (t : LineAnswer Machine) → (b == 10) ≡ k → took answer m b ≡ Ok t → m.stage.number ≤ t.after.stage.number
took_rises_at true answer m b t e h = omega (arith, break_rises answer m b t e h)
took_rises_at false answer m b t e h = omega (arith, other_stays answer m b t e h)

took_rises : (answer : Option (List ℕ)) (m : Machine) (b : ℕ) (t : LineAnswer Machine) → took answer m b ≡ Ok t → m.stage.number ≤ t.after.stage.number
took_rises answer m b t h = took_rises_at (b == 10) answer m b t refl h

abbrev Rises : List ℕ → Type 0
Rises bytes = (a : Searches) (text : List ℕ) (m : Machine) (new : List ℕ) (n : Machine) → Leads a bytes text m new n → m.stage.number ≤ n.stage.number

rises_at : (r : Result (LineAnswer Machine) ScriptFault) (b : ℕ) (bytes : List ℕ) (a : Searches) (text : List ℕ) (m : Machine) (new : List ℕ) (n : Machine) → took (a m.stage.number) m b ≡ r → Rises bytes
    → fed_on text m r (fed a bytes) ≡ record { text = new; machine = n; fault = None } → m.stage.number ≤ n.stage.number
rises_at (Ok t) b bytes a text m new n e ih h = omega (arith, took_rises (a m.stage.number) m b t e, ih a (text ++ t.text) t.after new n h)
rises_at (Err fault) b bytes a text m new n e ih h = let bad : Some fault ≡ None = ap (λ (f : Fed). f.fault) h in cc

pub rises : (bytes : List ℕ) → Rises bytes
rises [] a text m new n h = let same : m ≡ n = ap (λ (f : Fed). f.machine) h in omega (arith, ap (λ (k : Machine). k.stage.number) same)
rises (b ∷ bytes) a text m new n h = rises_at (took (a m.stage.number) m b) b bytes a text m new n refl (λ a text m new n h. rises bytes a text m new n h) h

-- ---- only the answers of the lines that come count

-- if the answer is the same wherever the byte ends a line, what holds of the byte under one answer holds under the
-- other
abbrev MayGoOn : Option (List ℕ) → ℕ → Machine → (Machine → Type 0) → Type 0
MayGoOn answer b m next = IfOk (took answer m b) (λ t. MayTake answer m b × next t.after)

goes_with : (r : Result (LineAnswer Machine) ScriptFault) (P : Type 0) (next also : Machine → Type 0) → ((t : LineAnswer Machine) → r ≡ Ok t → next t.after → also t.after)
    → IfOk r (λ t. P × next t.after) → IfOk r (λ t. P × also t.after)
goes_with (Ok t) P next also f h = (h.0, f t refl h.1)
goes_with (Err fault) P next also f h = tt

-- at a byte that ends no line, no search is made
other_may : (answer other : Option (List ℕ)) (b : ℕ) (m : Machine) (next : Machine → Type 0) → (b == 10) ≡ false → MayGoOn answer b m next → MayGoOn other b m next
other_may answer other b m next e h =
    let no : (b ≡ 10) → ⊥ = λ is. (let t : (b == 10) ≡ true = rw is refl in let bad : true ≡ false = sym t ∙ e in absurd cc) in
    let here = subst (λ (r : Result (LineAnswer Machine) ScriptFault). IfOk r (λ t. MayTake answer m b × next t.after)) (took_other answer m b e) h in
    subst (λ (r : Result (LineAnswer Machine) ScriptFault). IfOk r (λ t. MayTake other m b × next t.after)) (sym (took_other other m b e)) (λ is. absurd (no is), here.1)

-- answers that agree from the machine's number on lead to the same
abbrev SameFrom : List ℕ → Type 0
SameFrom bytes = (b c : Searches) (text : List ℕ) (m : Machine) → ((i : ℕ) → m.stage.number ≤ i → c i ≡ b i) → (fed c bytes text m ≡ fed b bytes text m) × (AllowedBytes b bytes m → AllowedBytes c bytes m)

from_later : (b c : Searches) (x y : ℕ) → x ≤ y → ((i : ℕ) → x ≤ i → c i ≡ b i) → (i : ℕ) → y ≤ i → c i ≡ b i
from_later b c x y h same i k = same i (omega (arith, h, k))

fed_from_at : (r : Result (LineAnswer Machine) ScriptFault) (bytes : List ℕ) (b c : Searches) (text : List ℕ) (m : Machine) → ((t : LineAnswer Machine) → r ≡ Ok t → fed c bytes (text ++ t.text) t.after ≡ fed b bytes (text ++ t.text) t.after)
    → fed_on text m r (fed c bytes) ≡ fed_on text m r (fed b bytes)
fed_from_at (Ok t) bytes b c text m f = f t refl
fed_from_at (Err fault) bytes b c text m f = refl

pub same_from : (bytes : List ℕ) → SameFrom bytes
same_from [] b c text m same = (refl, λ h. tt)
same_from (x ∷ bytes) b c text m same =
    let here : c m.stage.number ≡ b m.stage.number = same m.stage.number (omega arith) in
    let answer = b m.stage.number in
    let later : (t : LineAnswer Machine) → took answer m x ≡ Ok t → (i : ℕ) → t.after.stage.number ≤ i → c i ≡ b i = λ t e. from_later b c m.stage.number t.after.stage.number (took_rises answer m x t e) same in (
      ap (λ (o : Option (List ℕ)). fed_on text m (took o m x) (fed c bytes)) here
          ∙ fed_from_at (took answer m x) bytes b c text m (λ t e. (same_from bytes b c (text ++ t.text) t.after (later t e)).0),
      λ h. subst (λ (o : Option (List ℕ)). MayGoOn o x m (AllowedBytes c bytes)) (sym here)
          (goes_with (took answer m x) (MayTake answer m x) (AllowedBytes b bytes) (AllowedBytes c bytes) (λ t e k. (same_from bytes b c (text ++ t.text) t.after (later t e)).1 k) h),
    )

-- so do answers that agree below the number at which the bytes arrive
abbrev SameBelow : List ℕ → Type 0
SameBelow bytes = (a c : Searches) (text : List ℕ) (m : Machine) (new : List ℕ) (n : Machine) → ((i : ℕ) → i < n.stage.number → c i ≡ a i) → Goes a bytes text m new n → Goes c bytes text m new n

below_at : (r : Result (LineAnswer Machine) ScriptFault) (P : Type 0) (bytes : List ℕ) (a c : Searches) (text : List ℕ) (m : Machine) (new : List ℕ) (n : Machine) → ((i : ℕ) → i < n.stage.number → c i ≡ a i) → SameBelow bytes
    → fed_on text m r (fed a bytes) ≡ record { text = new; machine = n; fault = None } → IfOk r (λ t. P × AllowedBytes a bytes t.after)
    → (fed_on text m r (fed c bytes) ≡ record { text = new; machine = n; fault = None }) × IfOk r (λ t. P × AllowedBytes c bytes t.after)
below_at (Ok t) P bytes a c text m new n same ih h k = let rest = ih a c (text ++ t.text) t.after new n same (h, k.1) in (rest.0, (k.0, rest.1))
below_at (Err fault) P bytes a c text m new n same ih h k = let bad : Some fault ≡ None = ap (λ (f : Fed). f.fault) h in absurd cc

-- the line that a byte ends has a number below the one at which the bytes arrive
break_below : (r : Result (LineAnswer Machine) ScriptFault) (b : ℕ) (bytes : List ℕ) (a : Searches) (text : List ℕ) (m : Machine) (new : List ℕ) (n : Machine) → (b == 10) ≡ true → took (a m.stage.number) m b ≡ r
    → fed_on text m r (fed a bytes) ≡ record { text = new; machine = n; fault = None } → m.stage.number < n.stage.number
break_below (Ok t) b bytes a text m new n e is h = omega (arith, break_rises (a m.stage.number) m b t e is, rises bytes a (text ++ t.text) t.after new n h)
break_below (Err fault) b bytes a text m new n e is h = let bad : Some fault ≡ None = ap (λ (f : Fed). f.fault) h in absurd cc

-- the byte leads on in the same way under both answers
abbrev Alike : Searches → Searches → ℕ → List ℕ → List ℕ → Machine → List ℕ → Machine → Type 0
Alike a c b bytes text m new n =
    (fed_on text m (took (a m.stage.number) m b) (fed c bytes) ≡ record { text = new; machine = n; fault = None }) × MayGoOn (a m.stage.number) b m (AllowedBytes c bytes)
    → Goes c (b ∷ bytes) text m new n

alike_at : (k : Bool) (b : ℕ) (bytes : List ℕ) (a c : Searches) (text : List ℕ) (m : Machine) (new : List ℕ) (n : Machine) → (b == 10) ≡ k → ((i : ℕ) → i < n.stage.number → c i ≡ a i)
    → Goes a (b ∷ bytes) text m new n → Alike a c b bytes text m new n
alike_at true b bytes a c text m new n e same goes h =
    let here : c m.stage.number ≡ a m.stage.number = same m.stage.number (break_below (took (a m.stage.number) m b) b bytes a text m new n e refl goes.0) in (
      ap (λ (o : Option (List ℕ)). fed_on text m (took o m b) (fed c bytes)) here ∙ h.0,
      subst (λ (o : Option (List ℕ)). MayGoOn o b m (AllowedBytes c bytes)) (sym here) h.1,
    )
alike_at false b bytes a c text m new n e same goes h =
    let here : took (c m.stage.number) m b ≡ took (a m.stage.number) m b = took_other (c m.stage.number) m b e ∙ sym (took_other (a m.stage.number) m b e) in (
      ap (λ (r : Result (LineAnswer Machine) ScriptFault). fed_on text m r (fed c bytes)) here ∙ h.0,
      other_may (a m.stage.number) (c m.stage.number) b m (AllowedBytes c bytes) e h.1,
    )

pub same_below : (bytes : List ℕ) → SameBelow bytes
same_below [] a c text m new n same goes = (goes.0, tt)
same_below (b ∷ bytes) a c text m new n same goes =
    alike_at (b == 10) b bytes a c text m new n refl same goes
    (below_at (took (a m.stage.number) m b) (MayTake (a m.stage.number) m b) bytes a c text m new n same (λ a c text m new n same goes. same_below bytes a c text m new n same goes) goes.0 goes.1)

-- ---- a second piece

abbrev AlsoMay : List ℕ → Type 0
AlsoMay bytes = (c : Searches) (rest text : List ℕ) (m : Machine) (mid : List ℕ) (k : Machine) → Goes c bytes text m mid k → AllowedBytes c rest k → AllowedBytes c (bytes ++ rest) m

also_at : (r : Result (LineAnswer Machine) ScriptFault) (P : Type 0) (bytes : List ℕ) (c : Searches) (rest text : List ℕ) (m : Machine) (mid : List ℕ) (k : Machine) → AlsoMay bytes
    → fed_on text m r (fed c bytes) ≡ record { text = mid; machine = k; fault = None } → IfOk r (λ t. P × AllowedBytes c bytes t.after) → AllowedBytes c rest k → IfOk r (λ t. P × AllowedBytes c (bytes ++ rest) t.after)
also_at (Ok t) P bytes c rest text m mid k ih h may more = (may.0, ih c rest (text ++ t.text) t.after mid k (h, may.1) more)
also_at (Err fault) P bytes c rest text m mid k ih h may more = tt

pub also_may : (bytes : List ℕ) → AlsoMay bytes
also_may [] c rest text m mid k goes more = let same : m ≡ k = ap (λ (f : Fed). f.machine) goes.0 in subst (AllowedBytes c rest) (sym same) more
also_may (b ∷ bytes) c rest text m mid k goes more =
    also_at (took (c m.stage.number) m b) (MayTake (c m.stage.number) m b) bytes c rest text m mid k (λ c rest text m mid k goes more. also_may bytes c rest text m mid k goes more) goes.0 goes.1 more

-- both pieces, if the second starts at the number at which the first one arrived
pub join : (front rest text : List ℕ) (m : Machine) (mid : List ℕ) (k : Machine) (a b : Searches) → Goes a front text m mid k → AllowedBytes b rest k
    → (fed (joined a b k.stage.number) (front ++ rest) text m ≡ fed b rest mid k) × AllowedBytes (joined a b k.stage.number) (front ++ rest) m
join front rest text m mid k a b goes more =
    let c = joined a b k.stage.number in
    let first = same_below front a c text m mid k (λ i h. joined_before a b k.stage.number i h) goes in
    let second = same_from rest b c mid k (λ i h. joined_from a b k.stage.number i h) in
    (fed_append c front rest text m mid k first.0 ∙ second.0, also_may front c rest text m mid k first (second.1 more))

-- ---- one byte more

-- what a byte that was taken leaves
pub one_byte : (b : ℕ) (text : List ℕ) (m : Machine) (new : List ℕ) (n : Machine) (answer : Option (List ℕ)) (line : List ℕ) → MayTake answer m b → took answer m b ≡ Ok (line_answer line n) → new ≡ text ++ line → Goes (λ _. answer) (b ∷ []) text m new n
one_byte b text m new n answer line may e more = (
  ap (λ r. fed_on text m r (fed (λ _. answer) [])) e ∙ ap (λ (t : List ℕ). record { text = t; machine = n; fault = None }) (sym more),
  subst (λ (r : Result (LineAnswer Machine) ScriptFault). IfOk r (λ t. MayTake answer m b × Unit {0})) (sym e) (may, tt),
)

pub goes_more : (bytes : List ℕ) (i : ℕ) (old : List ℕ) (m : Machine) (text : List ℕ) (n : Machine) (new : List ℕ) (k : Machine) → i < length bytes
    → (a : Searches) × Goes a (take i bytes) old m text n
    → (answer : Option (List ℕ)) × (line : List ℕ) × MayTake answer n (get_or bytes i 0) × (took answer n (get_or bytes i 0) ≡ Ok (line_answer line k)) × (new ≡ text ++ line)
    → (c : Searches) × Goes c (take (i + 1) bytes) old m new k
goes_more bytes i old m text n new k within so_far byte =
    let b = get_or bytes i 0 in
    let one = one_byte b text n new k byte.0 byte.1 byte.2 byte.3 byte.4 in
    let both = join (take i bytes) (b ∷ []) old m text n so_far.0 (λ _. byte.0) so_far.1 one.1 in
    let c = joined so_far.0 (λ _. byte.0) n.stage.number in
    (c, subst (λ (front : List ℕ). Goes c front old m new k) (sym (take_more bytes i 0 within)) (both.0 ∙ one.0, both.1))

-- a fault that these bytes meet, for answers that the searches may give
abbrev Faults : ScriptFault → List ℕ → List ℕ → Machine → List ℕ → Type 0
Faults e bytes old m new = (c : Searches) × AllowedBytes c bytes m × ((fed c bytes old m).text ≡ new) × ((fed c bytes old m).fault ≡ Some e)

halted : (bytes : List ℕ) (i : ℕ) (old : List ℕ) (m : Machine) (text : List ℕ) (n : Machine) (new : List ℕ) (e : ScriptFault) → i < length bytes
    → (a : Searches) × Goes a (take i bytes) old m text n → took None n (get_or bytes i 0) ≡ Err e → new ≡ text → Faults e bytes old m new
halted bytes i old m text n new e within so_far is same =
    let none : Searches = λ _. None in
    let rest : drop i bytes ≡ get_or bytes i 0 ∷ drop (suc i) bytes = drop-cons bytes i 0 within in
    let stops : fed none (drop i bytes) text n ≡ record { text = text; machine = n; fault = Some e } =
    ap (λ (left : List ℕ). fed none left text n) rest ∙ ap (λ t. fed_on text n t (fed none (drop (suc i) bytes))) is in
    let may : AllowedBytes none (drop i bytes) n =
    subst (λ (left : List ℕ). AllowedBytes none left n) (sym rest)
    (subst (λ (r : Result (LineAnswer Machine) ScriptFault). IfOk r (λ t. MayTake None n (get_or bytes i 0) × AllowedBytes none (drop (suc i) bytes) t.after)) (sym is) tt) in
    let both = join (take i bytes) (drop i bytes) old m text n so_far.0 none so_far.1 may in
    let c = joined so_far.0 none n.stage.number in
    let whole = both.0 ∙ stops in
    subst (λ (all : List ℕ). Faults e all old m new) (take-append-drop i bytes)
    (c, both.1, ap (λ (f : Fed). f.text) whole ∙ sym same, ap (λ (f : Fed). f.fault) whole)

pub breaks : (e : ScriptFault) (bytes : List ℕ) (i : ℕ) (old : List ℕ) (m : Machine) (text : List ℕ) (n : Machine) (new : List ℕ) → i < length bytes
    → (a : Searches) × Goes a (take i bytes) old m text n → Halts n.stage.number e (took None n (get_or bytes i 0)) text new → Breaks e bytes old m new
breaks (OutOfMemory line) bytes i old m text n new within so_far h = record {
  front = take i bytes;
  rest = drop i bytes;
  machine = n;
  answers = so_far.0;
  whole = sym (take-append-drop i bytes);
  leads = (so_far.1.0 ∙ ap (λ (t : List ℕ). record { text = t; machine = n; fault = None }) (sym h.0), so_far.1.1);
  numbered = sym h.1;
}
breaks ReadFault bytes i old m text n new within so_far h = absurd h
breaks WriteFault bytes i old m text n new within so_far h = absurd h
breaks (BadLine k) bytes i old m text n new within so_far h = halted bytes i old m text n new (BadLine k) within so_far h.0 h.1
breaks (Te f) bytes i old m text n new within so_far h = halted bytes i old m text n new (Te f) within so_far h.0 h.1
breaks HistoryFull bytes i old m text n new within so_far h = halted bytes i old m text n new HistoryFull within so_far h.0 h.1
