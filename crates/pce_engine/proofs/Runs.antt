-- From piece to piece of the input.
use Rattle.std.proofs.Common.{◌≡◌, ℕ, ◌+◌, ◌<◌, ◌≤◌, List, length, arith, [], ◌∷◌, ◌++◌, Option, Some, None, Result, Ok, Err, IfOk, refl, sym, ap, ◌∙◌, subst, append_assoc}
use Rattle.std.proofs.lemmas.List.{append-nil, length-append}
use Rattle.std.specs.Io.KnownBytes.{Appends, Consumes, Keeps, IsAtEnd}
use Rattle.pce_engine.specs.declared.fault.ScriptFault.{ScriptFault}
use Rattle.pce_engine.specs.declared.fault.ScriptFault.TheVariants.{BadLine, Te, ReadFault, WriteFault, OutOfMemory, HistoryFull}
use Rattle.script_lines.specs.LineAnswer.{LineAnswer}
use Rattle.pce_engine.specs.Script.{Searches, Stage, answer_of_line, Outcome, ending, on_line_answer, script, text_of_lines}
use Rattle.pce_engine.specs.Machine.{Machine, started, Fed, took, fed_on, fed, MayTake, AllowedBytes, Leads, Goes, LeadsPartly, closed_with, completed}
use Rattle.pce_engine.specs.Ends.{piece_bound, EndsBy, MayClose, Writes, WritesScript, WritesLast, WritesBefore, WritesRead, ClosesBy}
use Rattle.pce_engine.specs.Runs.{GoesOn, Stops, Reading, ReadsOn, most_turns}
use Rattle.pce_engine.proofs.AllowedLines.{allowed_front, allowed_whole, allowed_stopped}
use Rattle.pce_engine.proofs.Joins.{joined, joined_from, join}
use Rattle.pce_engine.proofs.Laws.{fed_front, after, appends_more, script_by_bytes, text_of_front, number_of_front}

abbrev pub after_text : List ℕ → Outcome → Outcome
after_text text o = record { text = text ++ o.text; fault = o.fault }

front_answer : (r : Result (LineAnswer Stage) ScriptFault) (text : List ℕ) → on_line_answer text r (λ all t. record { text = all; fault = ending t.number t.standing }) ≡ after_text text (on_line_answer [] r (λ all t. record { text = all; fault = ending t.number t.standing }))
front_answer (Ok r) text = refl
front_answer (Err f) text = ap (λ (t : List ℕ). record { text = t; fault = Some f }) (sym (append-nil text))

closed_front : (answer : Option (List ℕ)) (text : List ℕ) (s : Stage) (p : List ℕ) → closed_with answer text s p ≡ after_text text (closed_with answer [] s p)
closed_front answer text s [] = ap (λ (t : List ℕ). record { text = t; fault = ending s.number s.standing }) (sym (append-nil text))
closed_front answer text s (b ∷ p) = front_answer (answer_of_line answer s (b ∷ p)) text

-- ---- a piece stops the script

abbrev Stays : Searches → List ℕ → Type 0
Stays c a = (b text : List ℕ) (m : Machine) (e : ScriptFault) → (fed c a text m).fault ≡ Some e → AllowedBytes c a m → (fed c (a ++ b) text m ≡ fed c a text m) × AllowedBytes c (a ++ b) m

stays_at : (r : Result (LineAnswer Machine) ScriptFault) (P : Type 0) (c : Searches) (a b text : List ℕ) (m : Machine) (e : ScriptFault) → Stays c a → (fed_on text m r (fed c a)).fault ≡ Some e → IfOk r (λ t. P × AllowedBytes c a t.after)
    → (fed_on text m r (fed c (a ++ b)) ≡ fed_on text m r (fed c a)) × IfOk r (λ t. P × AllowedBytes c (a ++ b) t.after)
stays_at (Ok r) P c a b text m e ih h may = let rest = ih b (text ++ r.text) r.after e h may.1 in (rest.0, (may.0, rest.1))
stays_at (Err f) P c a b text m e ih h may = (refl, tt)

fed_stays : (c : Searches) (a : List ℕ) → Stays c a
fed_stays c [] b text m e h may = absurd cc
fed_stays c (x ∷ a) b text m e h may = stays_at (took (c m.stage.number) m x) (MayTake (c m.stage.number) m x) c a b text m e (λ b text m e h may. fed_stays c a b text m e h may) h may

-- ---- the reader

consumed : (rest bytes : List ℕ) (now : Option (List ℕ)) → Consumes (Some rest) now bytes → (ys : List ℕ) × (now ≡ Some ys) × (rest ≡ bytes ++ ys)
consumed rest bytes None h = absurd h
consumed rest bytes (Some ys) h = (ys, refl, h)

kept : (rest : List ℕ) (now : Option (List ℕ)) → Keeps (Some rest) now → now ≡ Some rest
kept rest None h = absurd h
kept rest (Some ys) h = ap (λ (xs : List ℕ). Some xs) h

keeps_same : (a : Option (List ℕ)) → Keeps a a
keeps_same None = tt
keeps_same (Some xs) = refl

-- the front leads to a machine, and the rest of the input goes on from there
on_from : (front more text : List ℕ) (m : Machine) (a b : Searches) → Goes a front [] started text m → AllowedBytes b more m
    → (fed (joined a b m.stage.number) (front ++ more) [] started ≡ after text (fed b more [] m)) × AllowedBytes (joined a b m.stage.number) (front ++ more) started
on_from front more text m a b so_far may =
    let both = join front more [] started text m a b so_far may in
    (both.0 ∙ ap (λ (t : List ℕ). fed b more t m) (sym (append-nil text)) ∙ fed_front b more text [] m, both.1)

-- a piece that leads on leads the front on
leads_on : (front more text line : List ℕ) (m n : Machine) (a b : Searches) → Goes a front [] started text m → Goes b more [] m line n → Goes (joined a b m.stage.number) (front ++ more) [] started (text ++ line) n
leads_on front more text line m n a b so_far e = let both = on_from front more text m a b so_far e.1 in (both.0 ∙ ap (after text) e.0, both.1)

appends_nothing : (w : Option (List ℕ)) → Appends w w []
appends_nothing None = tt
appends_nothing (Some xs) = sym (append-nil xs)

-- nothing was read
pub read_none : (input : List ℕ) (known w : Option (List ℕ)) (m : Machine) → m ≡ started → known ≡ Some input → Reading input known w w m 0
read_none input known w m first is =
    record {
      front = [];
      rest = input;
      text = [];
      answers = λ _. None;
      known = is;
      whole = refl;
      written = appends_nothing w;
      so_far = (ap (λ (k : Machine). record { text = []; machine = k; fault = None }) (sym first), tt);
      turned = omega arith;
    }

pub read_more : (input bytes : List ℕ) (was now old mid new : Option (List ℕ)) (m n : Machine) (turns : ℕ) → Reading input was old mid m turns → Consumes was now bytes → 0 < length bytes → GoesOn bytes m mid new n → Reading input now old new n (turns + 1)
read_more input bytes was now old mid new m n turns r c some k =
    let (ys, is, rest) = consumed r.rest bytes now (subst (λ (o : Option (List ℕ)). Consumes o now bytes) r.known c) in
    record {
      front = r.front ++ bytes;
      rest = ys;
      text = r.text ++ k.1;
      answers = joined r.answers k.0 m.stage.number;
      known = is;
      whole = r.whole ∙ ap (λ (t : List ℕ). r.front ++ t) rest ∙ sym (append_assoc r.front bytes ys);
      written = appends_more old mid new r.text k.1 r.written k.2;
      so_far = leads_on r.front bytes r.text k.1 m n r.answers k.0 r.so_far k.3;
      turned = omega (arith, r.turned, some, length-append r.front bytes);
    }

stop_text : (input bytes ys : List ℕ) (old mid new : Option (List ℕ)) (m : Machine) (e : ScriptFault) (front text : List ℕ) (a b : Searches) → input ≡ front ++ (bytes ++ ys) → Goes a front [] started text m
    → Appends old mid text → AllowedBytes b bytes m → Appends mid new (fed b bytes [] m).text → (fed b bytes [] m).fault ≡ Some e → WritesScript old new (Some e) input
stop_text input bytes ys old mid new m e front text a b whole so_far first may second stops =
    let f : Fed = fed b bytes [] m in
    let c = joined a b m.stage.number in
    let stays = fed_stays b bytes ys [] m e stops may in
    let both = on_from front (bytes ++ ys) text m a b so_far stays.1 in
    let same : fed c input [] started ≡ after text f = ap (λ (all : List ℕ). fed c all [] started) whole ∙ both.0 ∙ ap (after text) stays.0 in
    let here : script c input ≡ record { text = text ++ f.text; fault = Some e } = script_by_bytes c input ∙ ap (completed c) same ∙ rw stops in
    let lines = allowed_stopped c input e (subst (λ (all : List ℕ). AllowedBytes c all started) (sym whole) both.1) (ap (λ (f : Fed). f.fault) same ∙ stops) in
    (c, lines, rw here (appends_more old mid new text f.text first second, refl))

stop_case : (e : ScriptFault) (input bytes : List ℕ) (was now old mid new : Option (List ℕ)) (m : Machine) (turns : ℕ) → Reading input was old mid m turns → Consumes was now bytes
    → (b : Searches) → AllowedBytes b bytes m → Appends mid new (fed b bytes [] m).text → (fed b bytes [] m).fault ≡ Some e → WritesScript old new (Some e) input
stop_case e input bytes was now old mid new m turns r c b may k stops =
    let (ys, is, rest) = consumed r.rest bytes now (subst (λ (o : Option (List ℕ)). Consumes o now bytes) r.known c) in
    stop_text input bytes ys old mid new m e r.front r.text r.answers b (r.whole ∙ ap (λ (t : List ℕ). r.front ++ t) rest) r.so_far r.written may k stops

-- memory ran out within a piece: what the whole lines before it and the answered lines of the piece print was written
stop_memory : (input bytes : List ℕ) (was now old mid new : Option (List ℕ)) (m : Machine) (turns : ℕ) (text : List ℕ) (number : ℕ) → Reading input was old mid m turns → Consumes was now bytes → length bytes ≤ piece_bound
    → LeadsPartly bytes [] m text number → Appends mid new text → WritesBefore number old new now input
stop_memory input bytes was now old mid new m turns text number r c small part k =
    let (ys, is, rest) = consumed r.rest bytes now (subst (λ (o : Option (List ℕ)). Consumes o now bytes) r.known c) in
    let whole : input ≡ (r.front ++ part.front) ++ (part.rest ++ ys) = r.whole ∙ ap (λ (t : List ℕ). r.front ++ t) (rest ∙ ap (λ (t : List ℕ). t ++ ys) part.whole ∙ append_assoc part.front part.rest ys) ∙ sym (append_assoc r.front part.front (part.rest ++ ys)) in
    let both = joined r.answers part.answers m.stage.number in
    let leads = leads_on r.front part.front r.text text m part.machine r.answers part.answers r.so_far part.leads in
    let text_is : text_of_lines both (r.front ++ part.front) ≡ r.text ++ text = text_of_front both (r.front ++ part.front) (r.text ++ text) part.machine leads.0 in
    record {
      front = r.front ++ part.front;
      rest = part.rest ++ ys;
      unread = ys;
      answers = both;
      whole = whole;
      known = is;
      behind = omega (arith, length-append part.rest ys, length-append part.front part.rest, ap length part.whole, small);
      numbered = sym part.numbered ∙ number_of_front both (r.front ++ part.front) (r.text ++ text) part.machine leads.0;
      allowed = allowed_front both (r.front ++ part.front) (r.text ++ text) part.machine leads;
      written = subst (Appends old new) (sym text_is) (appends_more old mid new r.text text r.written k);
    }

pub read_stops : (e : ScriptFault) (input bytes : List ℕ) (was now old mid new : Option (List ℕ)) (m : Machine) (turns : ℕ) → Reading input was old mid m turns → Consumes was now bytes → length bytes ≤ piece_bound → Stops e bytes m mid new → EndsBy e old new now input
read_stops (OutOfMemory line) input bytes was now old mid new m turns r c small k = stop_memory input bytes was now old mid new m turns k.0 line r c small k.1 k.2
read_stops ReadFault input bytes was now old mid new m turns r c small k = absurd k
read_stops WriteFault input bytes was now old mid new m turns r c small k = tt
read_stops (BadLine i) input bytes was now old mid new m turns r c small k = stop_case (BadLine i) input bytes was now old mid new m turns r c k.0 k.1 k.2 k.3
read_stops (Te f) input bytes was now old mid new m turns r c small k = stop_case (Te f) input bytes was now old mid new m turns r c k.0 k.1 k.2 k.3
read_stops HistoryFull input bytes was now old mid new m turns r c small k = stop_case HistoryFull input bytes was now old mid new m turns r c k.0 k.1 k.2 k.3

-- a read failed
pub read_fails : (input : List ℕ) (was now old mid : Option (List ℕ)) (m : Machine) (turns : ℕ) → Reading input was old mid m turns → Keeps was now → WritesRead old mid now input
read_fails input was now old mid m turns r k =
    let is : now ≡ Some r.rest = kept r.rest now (subst (λ (o : Option (List ℕ)). Keeps o now) r.known k) in
    record {
      front = r.front;
      answers = r.answers;
      read = subst (λ (o : Option (List ℕ)). Consumes (Some input) o r.front) (sym is) r.whole;
      allowed = allowed_front r.answers r.front r.text m r.so_far;
      written = subst (Appends old mid) (sym (text_of_front r.answers r.front r.text m r.so_far.0)) r.written;
    }

-- the reader was asked as often as it may be
pub reads_on : (input : List ℕ) (was old mid : Option (List ℕ)) (m : Machine) (turns : ℕ) → Reading input was old mid m turns → most_turns ≤ turns → ReadsOn old mid was input
unfolding read_fails
reads_on input was old mid m turns r many =
    let often : most_turns ≤ length r.front = omega (arith, r.turned, many) in (read_fails input was was old mid m turns r (keeps_same was), often)

both_empty : (a b c : List ℕ) → c ≡ a ++ b → a ≡ [] → b ≡ [] → c ≡ []
both_empty a b c e p q = e ∙ rw (p, q)

-- ---- the input has ended

closed_script : (c : Searches) (input text : List ℕ) (m : Machine) → Leads c input [] started text m → script c input ≡ after_text text (closed_with (c m.stage.number) [] m.stage m.pending)
closed_script c input text m so_far = script_by_bytes c input ∙ ap (completed c) so_far ∙ closed_front (c m.stage.number) text m.stage m.pending

-- the last line's search answers this, and the searches of the lines before it answer as they did
ends_with : (input text : List ℕ) (old mid new : Option (List ℕ)) (m : Machine) (fault : Option ScriptFault) (a : Searches) → Goes a input [] started text m → Appends old mid text
    → WritesLast mid new fault m.stage m.pending → WritesScript old new fault input
ends_with input text old mid new m fault a so_far first k =
    let last : Searches = λ _. k.0 in
    let c = joined a last m.stage.number in
    let here : c m.stage.number ≡ k.0 = joined_from a last m.stage.number m.stage.number (omega arith) in
    let both = join input [] [] started text m a last so_far tt in
    let goes : Goes c input [] started text m = subst (λ (all : List ℕ). Goes c all [] started text m) (append-nil input) both in
    let written : Writes mid new fault (closed_with (c m.stage.number) [] m.stage m.pending) = subst (λ (o : Option (List ℕ)). Writes mid new fault (closed_with o [] m.stage m.pending)) (sym here) k.2 in (
      c,
      allowed_whole c input text m goes (subst (λ (o : Option (List ℕ)). MayClose o m.stage m.pending) (sym here) k.1),
      rw (closed_script c input text m goes.0) (appends_more old mid new text (closed_with (c m.stage.number) [] m.stage m.pending).text first written.0, written.1),
    )

ends_by : (e : ScriptFault) (input text : List ℕ) (old mid new left : Option (List ℕ)) (m : Machine) (a : Searches) → left ≡ Some [] → Goes a input [] started text m → Appends old mid text
    → ClosesBy e mid new m.stage m.pending → EndsBy e old new left input
ends_by (OutOfMemory line) input text old mid new left m a over so_far first k =
    record {
      front = input;
      rest = [];
      unread = [];
      answers = a;
      whole = sym (append-nil input);
      known = over;
      behind = omega arith;
      numbered = k.1 ∙ number_of_front a input text m so_far.0;
      allowed = allowed_front a input text m so_far;
      written = subst (Appends old new) (sym (text_of_front a input text m so_far.0)) (subst (λ (o : Option (List ℕ)). Appends old o text) (sym k.0) first);
    }
ends_by ReadFault input text old mid new left m a over so_far first k = absurd k
ends_by WriteFault input text old mid new left m a over so_far first k = tt
ends_by (BadLine i) input text old mid new left m a over so_far first k = ends_with input text old mid new m (Some (BadLine i)) a so_far first k
ends_by (Te f) input text old mid new left m a over so_far first k = ends_with input text old mid new m (Some (Te f)) a so_far first k
ends_by HistoryFull input text old mid new left m a over so_far first k = ends_with input text old mid new m (Some HistoryFull) a so_far first k

-- the reader gave nothing more, so all of the input led here
abbrev IsOver : Searches → List ℕ → List ℕ → Machine → Option (List ℕ) → Type 0
IsOver a input text m now = (now ≡ Some []) × Goes a input [] started text m

over : (input bytes : List ℕ) (was now old mid : Option (List ℕ)) (m : Machine) (turns : ℕ) (r : Reading input was old mid m turns) → bytes ≡ [] → Consumes was now bytes → IsAtEnd now → IsOver r.answers input r.text m now
over input bytes was now old mid m turns r none c end =
    let (ys, is, rest) = consumed r.rest bytes now (subst (λ (o : Option (List ℕ)). Consumes o now bytes) r.known c) in
    let over : ys ≡ [] = subst IsAtEnd is end in
    let whole : input ≡ r.front = r.whole ∙ ap (λ (t : List ℕ). r.front ++ t) (both_empty bytes ys r.rest rest none over) ∙ append-nil r.front in
    (is ∙ ap (λ (t : List ℕ). Some t) over, subst (λ (all : List ℕ). Goes r.answers all [] started r.text m) (sym whole) r.so_far)

-- the input has ended well
pub read_ends : (input bytes : List ℕ) (was now old mid new : Option (List ℕ)) (m : Machine) (turns : ℕ) → Reading input was old mid m turns → bytes ≡ [] → Consumes was now bytes → IsAtEnd now
    → WritesLast mid new None m.stage m.pending → WritesScript old new None input
read_ends input bytes was now old mid new m turns r none c end k =
    let h = over input bytes was now old mid m turns r none c end in ends_with input r.text old mid new m None r.answers h.1 r.written k

-- a fault came at its end
pub read_faults : (e : ScriptFault) (input bytes : List ℕ) (was now old mid new : Option (List ℕ)) (m : Machine) (turns : ℕ) → Reading input was old mid m turns → bytes ≡ [] → Consumes was now bytes → IsAtEnd now
    → ClosesBy e mid new m.stage m.pending → EndsBy e old new now input
read_faults e input bytes was now old mid new m turns r none c end k =
    let h = over input bytes was now old mid m turns r none c end in ends_by e input r.text old mid new now m r.answers h.0 h.1 r.written k
