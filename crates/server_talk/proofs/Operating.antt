-- An operator, line by line.
use Rattle.std.proofs.Common.{◌≡◌, ◌≢◌, ℕ, ◌+◌, ◌-◌, ◌^◌, ◌<◌, min, ℤ, Bool, true, false, List, [], ◌∷◌, ◌++◌, length, codes, string_bytes, Option, Some, None, IsSome, Result, Ok, Err, refl, sym, ◌∙◌, ap, subst, append_assoc, append-nil, take, drop, get_or, take-append-drop, drop-cons, add-one, arith}
use Rattle.std.specs.Prelude.{◌==◌}
use Rattle.std.proofs.lemmas.Bool.Decides.{nat_tests}
use Rattle.std.proofs.lemmas.List.{length_push, take_more}
use Rattle.std.proofs.lemmas.List.Elements.{All-nil, All-append, All-push}
use Rattle.std.proofs.KnownBytes.{Consumes-trans}
use Rattle.std.specs.Io.KnownBytes.{Consumes, IsAtEnd}
use Rattle.std.specs.declared.io.ErrorKind.{ErrorKind}
use Rattle.history_core.specs.Faults.{fault_text}
use Rattle.history_core.specs.declared.fault.Fault.TheVariants.{OutOfMemory, HistoryFull}
use Rattle.te_base.specs.Values.{Values}
use Rattle.step_core.specs.declared.event.Event.{Event}
use Rattle.step_core.specs.declared.event.Event.TheVariants as event
use Rattle.link_reload.specs.declared.entry.LinkReload.{LinkReload}
use Rattle.engine_core.specs.Calls.{called}
use Rattle.engine_core.specs.Deeds.{Deed}
use Rattle.script_lines.specs.Answered.{Replied, NotTaken}
use Rattle.script_lines.specs.Book.{table_text}
use Rattle.script_lines.specs.declared.views.ViewLine.{ViewLine}
use Rattle.script_lines.specs.Lines.{Cut, cut}
use Rattle.script_lines.specs.declared.fault.CommandFault.{CommandFault}
use Rattle.script_lines.specs.declared.fault.CommandFault.TheVariants.{BadLine, Store}
use Rattle.script_lines.proofs.Cutting.{break_cut, byte_cut, front_of}
use Rattle.server_talk.specs.declared.commands.Answer.{Answer}
use Rattle.server_talk.specs.declared.commands.Answer.TheVariants as answers
use Rattle.server_talk.specs.declared.operator.OperatorEnd.{OperatorEnd}
use Rattle.server_talk.specs.declared.operator.OperatorEnd.TheVariants.{InputEnded, EndAsked, RunEnding, ReadFault, WriteFault, FlushFault}
use Rattle.server_talk.specs.declared.pending.OpenLine.{OpenLine}
use Rattle.server_talk.specs.declared.plan.PlanFault.{PlanFault}
use Rattle.server_talk.specs.declared.requests.Request.{Request}
use Rattle.server_talk.specs.declared.requests.Request.TheVariants.{Book, Check, End, Reload, Submit, View}
use Rattle.server_talk.specs.Goings.{Goes}
use Rattle.server_talk.specs.Goings.Goes.{Stays, Moves, Empties, Rolls}
use Rattle.server_talk.specs.Listening.{said_of, Comes, Answered, Answers, AnswersLines, TakesLine, IsKept, SoFar, StopsAt, Stopped, HandsOn, HearsOn, Turns}
use Rattle.line_names.specs.Plain.{plain_line}
use Rattle.line_names.specs.declared.plain.Named.{Named}
use Rattle.server_talk.specs.Naming.{StandsFor, is_named}
use Rattle.server_talk.specs.Naming.StandsFor.{Plain}
use Rattle.server_talk.specs.Notes.{IsNote, note_text}
use Rattle.server_talk.specs.Operators.{bad_line, unread_line, number_behind, IsOperators, AreOperators, IsAnswered, Listens, is_out, FailsAs, IsOver, Operated}
use Rattle.server_talk.specs.Operators.IsAnswered.{Obeyed, Shown, Reloaded, Unread, Checked, Viewed, Refused, Starved, StillFull}
use Rattle.server_talk.specs.Operators.Listens.{Begins, Hears, Lacks, Waits}
use Rattle.server_talk.specs.Servers.{Server}
use Rattle.server_talk.specs.ReloadChecks.{check_text}
use Rattle.server_talk.proofs.Ending.{asks_itself}
use Rattle.server_talk.specs.Requests.{asks_reading, asks_step, bare, explained_in, request_of}
use Rattle.server_talk.specs.Connections.{TakesAll}
use Rattle.server_talk.proofs.Flowing.{appends_none, takes_behind}
use Rattle.server_talk.proofs.Requesting.{operators_alone}

-- the bytes after the last line break contain no line break
abbrev HasNoBreak : List ℕ → Type 0
HasNoBreak rest = cut rest ≡ ([], rest)

rest_on : (t : Bool) (bytes : List ℕ) (b : ℕ) → (b == 10) ≡ t → HasNoBreak (cut bytes).1 → HasNoBreak (cut (bytes ++ b ∷ [])).1
rest_on true bytes b e h = subst HasNoBreak (sym (ap (λ (c : Cut). c.1) (break_cut bytes b (grind (arith, nat_tests))))) refl
rest_on false bytes b e h =
    let other : b ≢ 10 = grind (arith, nat_tests) in
    subst HasNoBreak (sym (ap (λ (c : Cut). c.1) (byte_cut bytes b other))) (byte_cut (cut bytes).1 b other ∙ ap (λ (c : Cut). (c.0, c.1 ++ b ∷ [])) h)

rests : (more bytes : List ℕ) → HasNoBreak (cut bytes).1 → HasNoBreak (cut (bytes ++ more)).1
rests [] bytes h = subst (λ (all : List ℕ). HasNoBreak (cut all).1) (sym (append-nil bytes)) h
rests (b ∷ more) bytes h = subst (λ (all : List ℕ). HasNoBreak (cut all).1) (append_assoc bytes (b ∷ []) more) (rests more (bytes ++ b ∷ []) (rest_on (b == 10) bytes b refl h))

rest_has_no_line : (bytes : List ℕ) → (cut (cut bytes).1).0 ≡ []
rest_has_no_line bytes = ap (λ (c : Cut). c.0) (rests bytes [] refl)

-- the next line has the next number
next_number : (number : ℕ) (lines : List (List ℕ)) (line : List ℕ) → number ≡ number_behind lines → min (number + 1) (2 ^ 64 - 1) ≡ number_behind (lines ++ line ∷ [])
next_number number lines line is = let more = length_push lines line in omega arith

-- a request for an event is a request
step_is_asked : (asked : Option Request) → asks_step asked ≡ true → IsSome asked
step_is_asked (Some request) is = refl
step_is_asked None is = cc

-- the bytes of a piece before one byte, that byte, and the bytes after it
pub whole_piece : (heard piece : List ℕ) (i : ℕ) → i < length piece → ((heard ++ take i piece) ++ get_or piece i 0 ∷ []) ++ drop (i + 1) piece ≡ heard ++ piece
whole_piece heard piece i h =
    let byte = get_or piece i 0 in
    let rest : take i piece ++ drop i piece ≡ take i piece ++ (byte ∷ drop (i + 1) piece) = rw (add-one, drop-cons piece i 0) in
    append_assoc (heard ++ take i piece) (byte ∷ []) (drop (i + 1) piece) ∙ append_assoc heard (take i piece) (byte ∷ drop (i + 1) piece)
    ∙ ap (λ (all : List ℕ). heard ++ all) (sym rest ∙ take-append-drop i piece)

-- the bytes before one byte, with that byte
pub longer_front : (heard piece : List ℕ) (i : ℕ) → i < length piece → (heard ++ take i piece) ++ get_or piece i 0 ∷ [] ≡ heard ++ take (i + 1) piece
longer_front heard piece i h = append_assoc heard (take i piece) (get_or piece i 0 ∷ []) ∙ ap (λ (front : List ℕ). heard ++ front) (sym (take_more piece i 0 h))

-- a read that gives nothing
pub consumed_none : (a b c : Option (List ℕ)) (heard buffer : List ℕ) (count : ℕ) → count ≡ 0 → Consumes a b heard → Consumes b c (take count buffer) → Consumes a c heard
consumed_none a b c heard buffer count none h k =
    subst (λ (bytes : List ℕ). Consumes a c bytes) (ap (λ (n : ℕ). heard ++ take n buffer) none ∙ append-nil heard) (Consumes-trans a b c heard (take count buffer) h k)

stops_at_more : (end : OperatorEnd) (rest more : List ℕ) → StopsAt end rest → StopsAt end (rest ++ more)
stops_at_more EndAsked rest more h = (h.0, h.1, h.2 ++ more, ap (λ (all : List ℕ). all ++ more) h.3 ∙ append_assoc h.0 (10 ∷ h.2) more)
stops_at_more WriteFault rest more h = tt
stops_at_more FlushFault rest more h = tt
stops_at_more InputEnded rest more h = absurd h
stops_at_more RunEnding rest more h = absurd h
stops_at_more ReadFault rest more h = absurd h

cause_over : (end : OperatorEnd) (may_close : Type 0) (left : Option (List ℕ)) (rest : List ℕ) → StopsAt end rest → IsOver end may_close left rest
cause_over EndAsked may_close left rest h = h
cause_over WriteFault may_close left rest h = tt
cause_over FlushFault may_close left rest h = tt
cause_over InputEnded may_close left rest h = absurd h
cause_over RunEnding may_close left rest h = absurd h
cause_over ReadFault may_close left rest h = absurd h

module _ {S : Type 0} (server : Server S) where
  abbrev Heard : S → List (List ℕ) → List Deed → List ℕ → S → Type 0
  Heard start lines calls said now = Listens server start lines calls said now

  abbrev IsDone : ℕ → List ℕ → S → List Deed → List ℕ → S → Type 0
  IsDone number line old made text new = IsAnswered server number line old made text new

  abbrev Came : Result Answer CommandFault → ℕ → List ℕ → S → S → Type 0
  Came r number line old new = Comes server r number line old new

  abbrev Stands : S → List (List ℕ) → List ℕ → S → Type 0
  Stands start lines said now = Answered server start lines said now

  abbrev Answering : Result Answer CommandFault → S → List (List ℕ) → List ℕ → List ℕ → S → Type 0
  Answering r start lines said line now = Answers server r start lines said line now

  abbrev AnswersThem : S → List (List ℕ) → Option (List ℕ) → Bool → S → Option (List ℕ) → Type 0
  AnswersThem start lines blank goes_out now written = AnswersLines server start lines blank goes_out now written

  abbrev Line : Option OperatorEnd → S → List (List ℕ) → Option (List ℕ) → List ℕ → S → Option (List ℕ) → Type 0
  Line end start lines blank line now written = TakesLine server end start lines blank line now written

  abbrev Keeps : S → Option (List ℕ) → List ℕ → OpenLine → S → Option (List ℕ) → Type 0
  Keeps start blank heard pending now written = SoFar server start blank heard pending now written

  abbrev Stops : OperatorEnd → S → Option (List ℕ) → List ℕ → S → Option (List ℕ) → Type 0
  Stops end start blank heard now written = Stopped server end start blank heard now written

  abbrev Hearing : Option OperatorEnd → S → Option (List ℕ) → List ℕ → OpenLine → S → Option (List ℕ) → Type 0
  Hearing end start blank heard pending now written = HearsOn server end start blank heard pending now written

  abbrev Ends : S → Option (List ℕ) → Option (List ℕ) → OperatorEnd → Type 0 → S → Option (List ℕ) → Option (List ℕ) → Type 0
  Ends start unread blank end may_close now left written = Operated server start unread blank end may_close now left written

  abbrev Goings : S → List Deed → S → Type 0
  Goings start calls now = Goes server.ways start calls now

  -- ---- the calls of all lines

  -- a store that went on to a state, and went on from there
  goes_behind : (start a b : S) (first more : List Deed) → Goings start first a → Goings a more b → Goings start (first ++ more) b
  goes_behind start a b first more went Stays = subst (λ (all : List Deed). Goings start all a) (sym (append-nil first)) went
  goes_behind start a b first more went (Moves before made c d way h) =
      subst (λ (all : List Deed). Goings start all d) (append_assoc first before made) (Moves (first ++ before) made c d (goes_behind start a c first before went way) h)
  goes_behind start a b first more went (Empties before c d way h) = Empties (first ++ before) c d (goes_behind start a c first before went way) h
  goes_behind start a b first more went (Rolls before steps c d way full h) = Rolls (first ++ before) steps c d (goes_behind start a c first before went way) full h

  -- a full history took nothing, and was rolled
  rolled : (steps : ℕ) (a b c : S) → server.ways.moves a [] b → server.ways.is_full b → server.ways.rolls b steps c → Goings a [] c
  rolled steps a b c h full k = Rolls [] steps b c (Moves [] [] a b Stays h) full k

  -- the call of a line lets the store go on
  answer_goes : (number : ℕ) (line : List ℕ) (a b : S) (made : List Deed) (text : List ℕ) → IsDone number line a made text b → Goings a made b
  answer_goes number line a b made text (Obeyed of reply new asks h) = Moves [] (called of reply ∷ []) a new Stays h
  answer_goes number line a b made text (Shown table new asks h left) = Moves [] [] a new Stays h
  answer_goes number line a b made text (Reloaded links reply new asks given h) = Moves [] (called (event.Reload links) reply ∷ []) a new Stays h
  answer_goes number line a b made text (Unread fault asks given) = Stays
  answer_goes number line a b made text (Checked links values left new asks given h has) = Moves [] [] a new Stays h
  answer_goes number line a b made text (Viewed view shown new asks h is) = Moves [] [] a new Stays h
  answer_goes number line a b made text (Refused bad) = Stays
  answer_goes number line a b made text (Starved new asks h) = Moves [] [] a new Stays h
  answer_goes number line a b made text (StillFull steps c d new asks h full k m again) = Moves [] [] d new (rolled steps a c d h full k) m

  answer_operators : (number : ℕ) (line : List ℕ) (a b : S) (made : List Deed) (text : List ℕ) → IsDone number line a made text b → AreOperators made
  answer_operators number line a b made text (Obeyed of reply new asks h) = All-push IsOperators [] (called of reply) (All-nil IsOperators) (operators_alone line of asks)
  answer_operators number line a b made text (Shown table new asks h left) = All-nil IsOperators
  answer_operators number line a b made text (Reloaded links reply new asks given h) = All-push IsOperators [] (called (event.Reload links) reply) (All-nil IsOperators) refl
  answer_operators number line a b made text (Unread fault asks given) = All-nil IsOperators
  answer_operators number line a b made text (Checked links values left new asks given h has) = All-nil IsOperators
  answer_operators number line a b made text (Viewed view shown new asks h is) = All-nil IsOperators
  answer_operators number line a b made text (Refused bad) = All-nil IsOperators
  answer_operators number line a b made text (Starved new asks h) = All-nil IsOperators
  answer_operators number line a b made text (StillFull steps c d new asks h full k m again) = All-nil IsOperators

  -- the calls of all lines let the store go on
  pub listens_goes : (start now : S) (lines : List (List ℕ)) (calls : List Deed) (said : List ℕ) → Heard start lines calls said now → Goings start calls now
  listens_goes start now lines calls said Begins = Stays
  listens_goes start now lines calls said (Hears before first made answers text line plain note at a b h went stands answer noted) =
      goes_behind start a b first made (listens_goes start a before first answers h) (answer_goes (number_behind before) plain a b made text answer)
  listens_goes start now lines calls said (Lacks before first answers line note a b h names way noted) =
      subst (λ (all : List Deed). Goings start all b) (append-nil first) (goes_behind start a b first [] (listens_goes start a before first answers h) (Moves [] [] a b Stays way))
  listens_goes start now lines calls said (Waits before first answers a b h way) =
      subst (λ (all : List Deed). Goings start all b) (append-nil first) (goes_behind start a b first [] (listens_goes start a before first answers h) way)

  -- each of these calls submits an operator's event
  pub listens_operators : (start now : S) (lines : List (List ℕ)) (calls : List Deed) (said : List ℕ) → Heard start lines calls said now → AreOperators calls
  listens_operators start now lines calls said Begins = All-nil IsOperators
  listens_operators start now lines calls said (Hears before first made answers text line plain note at a b h went stands answer noted) =
      All-append IsOperators first made (listens_operators start a before first answers h) (answer_operators (number_behind before) plain a b made text answer)
  listens_operators start now lines calls said (Lacks before first answers line note a b h names way noted) = listens_operators start a before first answers h
  listens_operators start now lines calls said (Waits before first answers a b h way) = listens_operators start a before first answers h

  -- ---- the result of a line

  pub came_reply : (number : ℕ) (line : List ℕ) (a b : S) (of : Event) (text : List ℕ) → request_of line ≡ Some (Submit of) → Replied server.ways.moves of text a b → (calls : List Deed) × IsDone number line a calls (text ++ codes "\n") b
  came_reply number line a b of text asks h = (
    called of h.0 ∷ [],
    subst (λ (t : List ℕ). IsDone number line a (called of h.0 ∷ []) (t ++ codes "\n") b) (sym h.2) (Obeyed of h.0 b asks h.1),
  )

  pub came_table : (number : ℕ) (line : List ℕ) (a b : S) (text : List ℕ) (table : List (List ℤ)) → request_of line ≡ Some Book → server.ways.moves a [] b → server.is_left b table → text ≡ table_text 0 table → (calls : List Deed) × IsDone number line a calls text b
  came_table number line a b text table asks h left is = ([], subst (λ (t : List ℕ). IsDone number line a [] t b) (sym is) (Shown table b asks h left))

  pub came_check : (number : ℕ) (line : List ℕ) (a b : S) (text : List ℕ) (links : List LinkReload) (values : List Values) (left : List (List ℤ)) → request_of line ≡ Some Check → server.reads (Ok links) → server.ways.moves a [] b → server.has_links b values left → text ≡ check_text values left links
      → (calls : List Deed) × IsDone number line a calls text b
  came_check number line a b text links values left asks given same has is = ([], subst (λ (t : List ℕ). IsDone number line a [] t b) (sym is) (Checked links values left b asks given same has))

  pub came_view : (number : ℕ) (line : List ℕ) (a b : S) (view : ViewLine) (text : List ℕ) → request_of line ≡ Some (View view) → server.ways.moves a [] b → server.shows a view text b → (calls : List Deed) × IsDone number line a calls text b
  came_view number line a b view text asks same h = ([], Viewed view text b asks same h)

  pub came_starved : (number : ℕ) (line : List ℕ) (a b : S) → IsSome (request_of line) → server.ways.moves a [] b → Came (Err (Store OutOfMemory)) number line a b
  came_starved number line a b asks h = ([], Starved b asks h)

  pub came_reloaded : (number : ℕ) (line : List ℕ) (a b : S) (links : List LinkReload) (text : List ℕ) → request_of line ≡ Some Reload → server.reads (Ok links) → Replied server.ways.moves (event.Reload links) text a b → (calls : List Deed) × IsDone number line a calls (text ++ codes "\n") b
  came_reloaded number line a b links text asks given h = (
    called (event.Reload links) h.0 ∷ [],
    subst (λ (t : List ℕ). IsDone number line a (called (event.Reload links) h.0 ∷ []) (t ++ codes "\n") b) (sym h.2) (Reloaded links h.0 b asks given h.1),
  )

  pub came_unread : (number : ℕ) (line : List ℕ) (a : S) (fault : PlanFault) → asks_reading (request_of line) ≡ true → server.reads (Err fault) → (calls : List Deed) × IsDone number line a calls (unread_line fault) a
  came_unread number line a fault asks given = ([], Unread fault asks given)

  pub came_fault : (fault : CommandFault) (number : ℕ) (line : List ℕ) (a b : S) → asks_step (request_of line) ≡ true → NotTaken server.ways.moves server.ways.is_full fault a b → Came (Err fault) number line a b
  came_fault BadLine number line a b asks h = absurd h
  came_fault (Store OutOfMemory) number line a b asks h = came_starved number line a b (step_is_asked (request_of line) asks) h
  came_fault (Store HistoryFull) number line a b asks h = (asks, h.0, h.1)

  -- the history was full
  pub was_full : (r : Result Answer CommandFault) (number : ℕ) (line : List ℕ) (a b : S) → r ≡ Err (Store HistoryFull) → Came r number line a b → Came (Err (Store HistoryFull)) number line a b
  was_full r number line a b is h = subst (λ (answer : Result Answer CommandFault). Came answer number line a b) is h

  -- ---- what a line leads to

  -- the store went on without a call
  pub waited : (start a b : S) (lines : List (List ℕ)) (said : List ℕ) → Goings a [] b → Stands start lines said a → Stands start lines said b
  waited start a b lines said went s = record { calls = s.calls; listens = Waits lines s.calls said a b s.listens went }

  -- one more line
  heard_line : (start named a b : S) (lines : List (List ℕ)) (said text line plain : List ℕ) (made : List Deed) → Goings named [] a → StandsFor server named line plain → IsDone (number_behind lines) plain a made text b → Stands start lines said a
      → (note : Option (List ℕ)) → IsNote note (explained_in line) text → Stands start (lines ++ line ∷ []) (said ++ (text ++ note_text note)) b
  heard_line start named a b lines said text line plain made went stands done s note noted =
      record { calls = s.calls ++ made; listens = Hears lines s.calls made said text line plain note named a b s.listens went stands done noted }

  -- the line that a line stands for had its answer at once
  pub answered_at_once : (r : Result Answer CommandFault) (start named a b : S) (lines : List (List ℕ)) (said line plain : List ℕ) → r ≢ Err (Store HistoryFull) → Came r (number_behind lines) plain a b → Goings named [] a → StandsFor server named line plain
      → Stands start lines said a → Answering r start lines said line b
  answered_at_once (Ok (answers.Reply text)) start named a b lines said line plain other h went stands s = heard_line start named a b lines said (string_bytes text ++ codes "\n") line plain h.0 went stands h.1 s
  answered_at_once (Ok (answers.Table text)) start named a b lines said line plain other h went stands s = heard_line start named a b lines said (string_bytes text) line plain h.0 went stands h.1 s
  answered_at_once (Ok (answers.Viewed text)) start named a b lines said line plain other h went stands s = heard_line start named a b lines said text.items line plain h.0 went stands h.1 s
  answered_at_once (Ok (answers.Unread fault)) start named a b lines said line plain other h went stands s = heard_line start named a b lines said (unread_line fault) line plain h.0 went stands h.1 s
  answered_at_once (Ok answers.End) start named a b lines said line plain other h went stands s =
      (asks_itself named line plain stands h.0, subst (λ (now : S). Stands start lines said now) (sym h.1) s)
  answered_at_once (Err BadLine) start named a b lines said line plain other h went stands s = heard_line start named a b lines said (bad_line (number_behind lines)) line plain h.0 went stands h.1 s
  answered_at_once (Err (Store OutOfMemory)) start named a b lines said line plain other h went stands s = heard_line start named a b lines said (fault_text OutOfMemory ++ codes "\n") line plain h.0 went stands h.1 s
  answered_at_once (Err (Store HistoryFull)) start named a b lines said line plain other h went stands s = absurd (other refl)

  abbrev Full : ℕ → List ℕ → S → S → Type 0
  Full number line a b = Came (Err (Store HistoryFull)) number line a b

  -- the history was full, and was rolled
  pub answered_after_roll : (r : Result Answer CommandFault) (steps : ℕ) (start a b c d : S) (lines : List (List ℕ)) (said line plain : List ℕ) → Full (number_behind lines) plain a b → server.ways.rolls b steps c → Came r (number_behind lines) plain c d
      → StandsFor server a line plain → Stands start lines said a → Answering r start lines said line d
  answered_after_roll (Ok answer) steps start a b c d lines said line plain full k h stands s =
      let went : Goings a [] c = rolled steps a b c full.1 full.2 k in answered_at_once (Ok answer) start a c d lines said line plain (λ e. cc) h went stands (waited start a c lines said went s)
  answered_after_roll (Err BadLine) steps start a b c d lines said line plain full k h stands s =
      let went : Goings a [] c = rolled steps a b c full.1 full.2 k in answered_at_once (Err BadLine) start a c d lines said line plain (λ e. cc) h went stands (waited start a c lines said went s)
  answered_after_roll (Err (Store OutOfMemory)) steps start a b c d lines said line plain full k h stands s =
      let went : Goings a [] c = rolled steps a b c full.1 full.2 k in answered_at_once (Err (Store OutOfMemory)) start a c d lines said line plain (λ e. cc) h went stands (waited start a c lines said went s)
  answered_after_roll (Err (Store HistoryFull)) steps start a b c d lines said line plain full k h stands s =
      heard_line start a a d lines said (fault_text HistoryFull ++ codes "\n") line plain [] Stays stands (StillFull steps b c d full.0 full.1 full.2 k h.1 h.2) s

  -- the history was full, was rolled, and memory ran out
  pub answered_starved : (start a b c : S) (lines : List (List ℕ)) (said line plain : List ℕ) → Full (number_behind lines) plain a b → server.ways.moves b [] c → StandsFor server a line plain → Stands start lines said a → Answering (Err (Store OutOfMemory)) start lines said line c
  answered_starved start a b c lines said line plain full k stands s =
      let went : Goings a [] b = Moves [] [] a b Stays full.1 in
      heard_line start a b c lines said (fault_text OutOfMemory ++ codes "\n") line plain [] went stands (Starved c (step_is_asked (request_of plain) full.0) k) (waited start a b lines said went s)

  -- the line that a line with names stands for
  pub stands_plain : (now : S) (line text : List ℕ) (named : Named) → text ≡ bare line → is_named line ≡ true → server.names now text named → StandsFor server now line (plain_line named text)
  stands_plain now line text named is some given =
      subst (λ (t : List ℕ). StandsFor server now line (plain_line named t)) (sym is) (Plain named some (subst (λ (t : List ℕ). server.names now t named) is given))

  -- the store was asked for names
  pub waited_named : (start a b : S) (lines : List (List ℕ)) (said : List ℕ) → server.ways.moves a [] b → Stands start lines said a → Stands start lines said b
  waited_named start a b lines said h s = waited start a b lines said (Moves [] [] a b Stays h) s

  -- a line has names, and memory ran out for what they stand for
  pub names_lack : (start a b : S) (lines : List (List ℕ)) (said line : List ℕ) → is_named line ≡ true → server.ways.moves a [] b → Stands start lines said a → Answering (Err (Store OutOfMemory)) start lines said line b
  names_lack start a b lines said line named h s = λ note noted. record { calls = s.calls; listens = Lacks lines s.calls said line note a b s.listens named h noted }

  -- ---- what is written

  -- the line was answered, and the answer was written
  pub said_of_line : (r : Result Answer CommandFault) (goes_out : Bool) (start now : S) (lines : List (List ℕ)) (blank old new : Option (List ℕ)) (said line : List ℕ) → r ≢ Ok answers.End → Answering r start lines said line now → TakesAll true blank old said
      → (note : Option (List ℕ)) → IsNote note (explained_in line) (said_of (number_behind lines) r) → TakesAll goes_out old new (said_of (number_behind lines) r ++ note_text note) → AnswersThem start (lines ++ line ∷ []) blank goes_out now new
  said_of_line (Ok (answers.Reply text)) goes_out start now lines blank old new said line other a was note noted out =
      record { said = said ++ (said_of (number_behind lines) (Ok (answers.Reply text)) ++ note_text note); answered = a note noted; out = takes_behind goes_out blank old new said (said_of (number_behind lines) (Ok (answers.Reply text)) ++ note_text note) was out }
  said_of_line (Ok (answers.Table text)) goes_out start now lines blank old new said line other a was note noted out =
      record { said = said ++ (said_of (number_behind lines) (Ok (answers.Table text)) ++ note_text note); answered = a note noted; out = takes_behind goes_out blank old new said (said_of (number_behind lines) (Ok (answers.Table text)) ++ note_text note) was out }
  said_of_line (Ok (answers.Viewed text)) goes_out start now lines blank old new said line other a was note noted out =
      record { said = said ++ (said_of (number_behind lines) (Ok (answers.Viewed text)) ++ note_text note); answered = a note noted; out = takes_behind goes_out blank old new said (said_of (number_behind lines) (Ok (answers.Viewed text)) ++ note_text note) was out }
  said_of_line (Ok (answers.Unread fault)) goes_out start now lines blank old new said line other a was note noted out =
      record { said = said ++ (said_of (number_behind lines) (Ok (answers.Unread fault)) ++ note_text note); answered = a note noted; out = takes_behind goes_out blank old new said (said_of (number_behind lines) (Ok (answers.Unread fault)) ++ note_text note) was out }
  said_of_line (Ok answers.End) goes_out start now lines blank old new said line other a was note noted out = absurd (other refl)
  said_of_line (Err BadLine) goes_out start now lines blank old new said line other a was note noted out =
      record { said = said ++ (said_of (number_behind lines) (Err BadLine) ++ note_text note); answered = a note noted; out = takes_behind goes_out blank old new said (said_of (number_behind lines) (Err BadLine) ++ note_text note) was out }
  said_of_line (Err (Store fault)) goes_out start now lines blank old new said line other a was note noted out =
      record { said = said ++ (said_of (number_behind lines) (Err (Store fault)) ++ note_text note); answered = a note noted; out = takes_behind goes_out blank old new said (said_of (number_behind lines) (Err (Store fault)) ++ note_text note) was out }

  -- the line asks for the end
  pub end_of_line : (r : Result Answer CommandFault) (start now : S) (lines : List (List ℕ)) (blank old : Option (List ℕ)) (said line : List ℕ) → r ≡ Ok answers.End → Answering r start lines said line now → TakesAll true blank old said
      → (request_of line ≡ Some End) × AnswersThem start lines blank true now old
  end_of_line (Ok answers.End) start now lines blank old said line is a was = (a.0, record { said = said; answered = a.1; out = was })
  end_of_line (Ok (answers.Reply text)) start now lines blank old said line is a was = cc
  end_of_line (Ok (answers.Table text)) start now lines blank old said line is a was = cc
  end_of_line (Ok (answers.Viewed text)) start now lines blank old said line is a was = cc
  end_of_line (Ok (answers.Unread fault)) start now lines blank old said line is a was = cc
  end_of_line (Err fault) start now lines blank old said line is a was = cc

  -- the store's list was emptied
  pub answer_emptied : (r : Result Answer CommandFault) (start a b : S) (lines : List (List ℕ)) (said line : List ℕ) → server.ways.same_but_calls a b → Answering r start lines said line a → Answering r start lines said line b
  answer_emptied (Ok (answers.Reply text)) start a b lines said line h s = λ note noted. waited start a b (lines ++ line ∷ []) (said ++ (said_of (number_behind lines) (Ok (answers.Reply text)) ++ note_text note)) (Empties [] a b Stays h) (s note noted)
  answer_emptied (Ok (answers.Table text)) start a b lines said line h s = λ note noted. waited start a b (lines ++ line ∷ []) (said ++ (said_of (number_behind lines) (Ok (answers.Table text)) ++ note_text note)) (Empties [] a b Stays h) (s note noted)
  answer_emptied (Ok (answers.Viewed text)) start a b lines said line h s = λ note noted. waited start a b (lines ++ line ∷ []) (said ++ (said_of (number_behind lines) (Ok (answers.Viewed text)) ++ note_text note)) (Empties [] a b Stays h) (s note noted)
  answer_emptied (Ok (answers.Unread fault)) start a b lines said line h s = λ note noted. waited start a b (lines ++ line ∷ []) (said ++ (said_of (number_behind lines) (Ok (answers.Unread fault)) ++ note_text note)) (Empties [] a b Stays h) (s note noted)
  answer_emptied (Ok answers.End) start a b lines said line h s = (s.0, waited start a b lines said (Empties [] a b Stays h) s.1)
  answer_emptied (Err BadLine) start a b lines said line h s = λ note noted. waited start a b (lines ++ line ∷ []) (said ++ (said_of (number_behind lines) (Err BadLine) ++ note_text note)) (Empties [] a b Stays h) (s note noted)
  answer_emptied (Err (Store fault)) start a b lines said line h s = λ note noted. waited start a b (lines ++ line ∷ []) (said ++ (said_of (number_behind lines) (Err (Store fault)) ++ note_text note)) (Empties [] a b Stays h) (s note noted)

  -- the same for a line that was answered and for one that asks for the end
  pub line_taken : (r : Result Answer CommandFault) (goes_out : Bool) (number : ℕ) (start now a b : S) (lines : List (List ℕ)) (blank old new : Option (List ℕ)) (line : List ℕ) → r ≢ Ok answers.End → number ≡ number_behind lines
      → ((said : List ℕ) → Stands start lines said now → Answering r start lines said line a) → server.ways.same_but_calls a b → (note : Option (List ℕ)) → IsNote note (explained_in line) (said_of number r) → TakesAll goes_out old new (said_of number r ++ note_text note)
      → AnswersThem start lines blank true now old → AnswersThem start (lines ++ line ∷ []) blank goes_out b new
  line_taken r goes_out number start now a b lines blank old new line other counted answer same note noted out t =
      said_of_line r goes_out start b lines blank old new t.said line other (answer_emptied r start a b lines t.said line same (answer t.said t.answered)) t.out note
      (subst (λ (n : ℕ). IsNote note (explained_in line) (said_of n r)) counted noted) (subst (λ (n : ℕ). TakesAll goes_out old new (said_of n r ++ note_text note)) counted out)

  -- the same whether the writer takes the answer or not
  pub line_said : (r : Result Answer CommandFault) (end : Option OperatorEnd) (number : ℕ) (start now a b : S) (lines : List (List ℕ)) (blank old new : Option (List ℕ)) (line : List ℕ) → r ≢ Ok answers.End → number ≡ number_behind lines
      → ((said : List ℕ) → Stands start lines said now → Answering r start lines said line a) → server.ways.same_but_calls a b → (note : Option (List ℕ)) → IsNote note (explained_in line) (said_of number r) → HandsOn end old new (said_of number r ++ note_text note)
      → AnswersThem start lines blank true now old → Line end start lines blank line b new
  line_said r None number start now a b lines blank old new line other counted answer same note noted out t = line_taken r true number start now a b lines blank old new line other counted answer same note noted out t
  line_said r (Some WriteFault) number start now a b lines blank old new line other counted answer same note noted out t = line_taken r false number start now a b lines blank old new line other counted answer same note noted out t
  line_said r (Some FlushFault) number start now a b lines blank old new line other counted answer same note noted out t = line_taken r true number start now a b lines blank old new line other counted answer same note noted out t
  line_said r (Some InputEnded) number start now a b lines blank old new line other counted answer same note noted out t = absurd out
  line_said r (Some EndAsked) number start now a b lines blank old new line other counted answer same note noted out t = absurd out
  line_said r (Some RunEnding) number start now a b lines blank old new line other counted answer same note noted out t = absurd out
  line_said r (Some ReadFault) number start now a b lines blank old new line other counted answer same note noted out t = absurd out

  pub end_taken : (r : Result Answer CommandFault) (start now a b : S) (lines : List (List ℕ)) (blank old : Option (List ℕ)) (line : List ℕ) → r ≡ Ok answers.End
      → ((said : List ℕ) → Stands start lines said now → Answering r start lines said line a) → server.ways.same_but_calls a b → AnswersThem start lines blank true now old → (request_of line ≡ Some End) × AnswersThem start lines blank true b old
  end_taken r start now a b lines blank old line is answer same t =
      end_of_line r start b lines blank old t.said line is (answer_emptied r start a b lines t.said line same (answer t.said t.answered)) t.out

  -- ---- byte by byte

  -- nothing has been heard yet
  pub begun : (start : S) (blank : Option (List ℕ)) (pending : OpenLine) → IsKept pending [] → pending.number ≡ 1 → Keeps start blank [] pending start blank
  begun start blank pending kept first = record {
    answers = record { said = []; answered = record { calls = []; listens = Begins }; out = appends_none blank };
    kept = kept;
    number = first;
  }

  -- the store's list was emptied in between
  pub rested : (start a b : S) (blank written : Option (List ℕ)) (heard : List ℕ) (pending : OpenLine) → server.ways.same_but_calls a b → Keeps start blank heard pending a written → Keeps start blank heard pending b written
  rested start a b blank written heard pending h s = record {
    answers = record { said = s.answers.said; answered = waited start a b (cut heard).0 s.answers.said (Empties [] a b Stays h) s.answers.answered; out = s.answers.out };
    kept = s.kept;
    number = s.number;
  }

  -- a byte of a line
  pub byte_heard : (start now : S) (blank written : Option (List ℕ)) (heard : List ℕ) (byte : ℕ) (pending next : OpenLine) → byte ≢ 10 → next.number ≡ pending.number → ((line : List ℕ) → IsKept pending line → IsKept next (line ++ byte ∷ []))
      → Keeps start blank heard pending now written → Keeps start blank (heard ++ byte ∷ []) next now written
  byte_heard start now blank written heard byte pending next other same keeps s =
      let more = byte_cut heard byte other in
      record {
        answers = subst (λ (c : Cut). AnswersThem start c.0 blank true now written) (sym more) s.answers;
        kept = subst (λ (c : Cut). IsKept next c.1) (sym more) (keeps (cut heard).1 s.kept);
        number = same ∙ subst (λ (c : Cut). pending.number ≡ number_behind c.0) (sym more) s.number;
      }

  -- a line break, and the line before it was answered
  pub break_heard : (start now : S) (blank written : Option (List ℕ)) (heard : List ℕ) (byte : ℕ) (pending next : OpenLine) → byte ≡ 10 → next.number ≡ min (pending.number + 1) (2 ^ 64 - 1) → ((line : List ℕ) → IsKept pending line → IsKept next [])
      → IsKept pending (cut heard).1 → pending.number ≡ number_behind (cut heard).0 → AnswersThem start ((cut heard).0 ++ (cut heard).1 ∷ []) blank true now written → Keeps start blank (heard ++ byte ∷ []) next now written
  break_heard start now blank written heard byte pending next ends counted keeps kept number t =
      let more = break_cut heard byte ends in
      record {
        answers = subst (λ (c : Cut). AnswersThem start c.0 blank true now written) (sym more) t;
        kept = subst (λ (c : Cut). IsKept next c.1) (sym more) (keeps (cut heard).1 kept);
        number = subst (λ (c : Cut). next.number ≡ number_behind c.0) (sym more) (counted ∙ next_number pending.number (cut heard).0 (cut heard).1 number);
      }

  -- the line before a line break is the last that is heard
  pub break_stops : (end : OperatorEnd) (start now : S) (blank written : Option (List ℕ)) (heard : List ℕ) (byte : ℕ) → byte ≡ 10 → Line (Some end) start (cut heard).0 blank (cut heard).1 now written → Stops end start blank (heard ++ byte ∷ []) now written
  break_stops EndAsked start now blank written heard byte ends t =
      let f = front_of heard in
      record {
        front = f.front;
        rest = (cut heard).1 ++ byte ∷ [];
        whole = ap (λ (all : List ℕ). all ++ byte ∷ []) f.whole ∙ append_assoc f.front (cut heard).1 (byte ∷ []);
        ended = ap (λ (c : Cut). c.1) f.ended;
        answers = subst (λ (c : Cut). AnswersThem start c.0 blank true now written) (sym f.ended) t.1;
        cause = ((cut heard).1, t.0, [], ap (λ (last : ℕ). (cut heard).1 ++ last ∷ []) ends);
      }
  break_stops WriteFault start now blank written heard byte ends t =
      let more = break_cut heard byte ends in
      record {
        front = heard ++ byte ∷ [];
        rest = [];
        whole = sym (append-nil (heard ++ byte ∷ []));
        ended = ap (λ (c : Cut). c.1) more;
        answers = subst (λ (c : Cut). AnswersThem start c.0 blank false now written) (sym more) t;
        cause = tt;
      }
  break_stops FlushFault start now blank written heard byte ends t =
      let more = break_cut heard byte ends in
      record {
        front = heard ++ byte ∷ [];
        rest = [];
        whole = sym (append-nil (heard ++ byte ∷ []));
        ended = ap (λ (c : Cut). c.1) more;
        answers = subst (λ (c : Cut). AnswersThem start c.0 blank true now written) (sym more) t;
        cause = tt;
      }
  break_stops InputEnded start now blank written heard byte ends t = absurd t
  break_stops RunEnding start now blank written heard byte ends t = absurd t
  break_stops ReadFault start now blank written heard byte ends t = absurd t

  -- more bytes were read, but not looked at
  pub stopped_before : (end : OperatorEnd) (start now : S) (blank written : Option (List ℕ)) (heard more : List ℕ) → Stops end start blank heard now written → Stops end start blank (heard ++ more) now written
  stopped_before end start now blank written heard more s = record {
    front = s.front;
    rest = s.rest ++ more;
    whole = ap (λ (all : List ℕ). all ++ more) s.whole ∙ append_assoc s.front s.rest more;
    ended = s.ended;
    answers = s.answers;
    cause = stops_at_more end s.rest more s.cause;
  }

  -- ---- the end

  -- a line was the last that is heard
  pub stopped : (end : OperatorEnd) (start now : S) (unread blank left written : Option (List ℕ)) (may_close : Type 0) (heard : List ℕ) → Consumes unread left heard → Stops end start blank heard now written → Ends start unread blank end may_close now left written
  stopped end start now unread blank left written may_close heard read s = record {
    front = s.front;
    rest = s.rest;
    calls = s.answers.answered.calls;
    said = s.answers.said;
    read = subst (λ (all : List ℕ). Consumes unread left all) s.whole read;
    whole = s.ended;
    listens = s.answers.answered.listens;
    out = s.answers.out;
    over = cause_over end may_close left s.rest s.cause;
  }

  -- what comes after the last line break is left, and so is more that was read
  pub left_there : (end : OperatorEnd) (start now : S) (unread blank left written : Option (List ℕ)) (may_close : Type 0) (heard more : List ℕ) (pending : OpenLine) → is_out end ≡ true → Consumes unread left (heard ++ more) → IsOver end may_close left ((cut heard).1 ++ more)
      → Keeps start blank heard pending now written → Ends start unread blank end may_close now left written
  left_there end start now unread blank left written may_close heard more pending out read over s =
      let f = front_of heard in
      let lines : (cut heard).0 ≡ (cut f.front).0 = sym (ap (λ (c : Cut). c.0) f.ended) in
      record {
        front = f.front;
        rest = (cut heard).1 ++ more;
        calls = s.answers.answered.calls;
        said = s.answers.said;
        read = subst (λ (all : List ℕ). Consumes unread left all) (ap (λ (all : List ℕ). all ++ more) f.whole ∙ append_assoc f.front (cut heard).1 more) read;
        whole = ap (λ (c : Cut). c.1) f.ended;
        listens = subst (λ (lines : List (List ℕ)). Heard start lines s.answers.answered.calls s.answers.said now) lines s.answers.answered.listens;
        out = subst (λ (goes_out : Bool). TakesAll goes_out blank written s.answers.said) (sym out) s.answers.out;
        over = over;
      }

  -- the reader has no more
  pub input_ended : (start now : S) (unread blank left written : Option (List ℕ)) (may_close : Type 0) (heard : List ℕ) (pending : OpenLine) → Consumes unread left heard → IsAtEnd left → Keeps start blank heard pending now written
      → Ends start unread blank InputEnded may_close now left written
  input_ended start now unread blank left written may_close heard pending read at_end s =
      left_there InputEnded start now unread blank left written may_close heard [] pending refl (subst (λ (all : List ℕ). Consumes unread left all) (sym (append-nil heard)) read)
      (at_end, subst (λ (rest : List ℕ). (cut rest).0 ≡ []) (sym (append-nil (cut heard).1)) (rest_has_no_line heard)) s

  -- a read failed
  pub failed : (r : Option OperatorEnd) (kind : ErrorKind) (start now : S) (unread blank left written : Option (List ℕ)) (may_close : Type 0) (heard : List ℕ) (pending : OpenLine) → FailsAs r kind may_close → Consumes unread left heard
      → Keeps start blank heard pending now written → Turns server r start unread blank may_close pending now left written
  failed None kind start now unread blank left written may_close heard pending why read s = (heard, read, s)
  failed (Some ReadFault) kind start now unread blank left written may_close heard pending why read s =
      left_there ReadFault start now unread blank left written may_close heard [] pending refl (subst (λ (all : List ℕ). Consumes unread left all) (sym (append-nil heard)) read) tt s
  failed (Some RunEnding) kind start now unread blank left written may_close heard pending why read s =
      left_there RunEnding start now unread blank left written may_close heard [] pending refl (subst (λ (all : List ℕ). Consumes unread left all) (sym (append-nil heard)) read) why s
  failed (Some InputEnded) kind start now unread blank left written may_close heard pending why read s = absurd why
  failed (Some EndAsked) kind start now unread blank left written may_close heard pending why read s = absurd why
  failed (Some WriteFault) kind start now unread blank left written may_close heard pending why read s = absurd why
  failed (Some FlushFault) kind start now unread blank left written may_close heard pending why read s = absurd why

  -- bytes were taken up to the end, or all of them were
  pub taken : (r : Option OperatorEnd) (start now : S) (unread blank left written : Option (List ℕ)) (may_close : Type 0) (heard : List ℕ) (pending : OpenLine) → Consumes unread left heard → Hearing r start blank heard pending now written
      → Turns server r start unread blank may_close pending now left written
  taken None start now unread blank left written may_close heard pending read s = (heard, read, s)
  taken (Some end) start now unread blank left written may_close heard pending read s = stopped end start now unread blank left written may_close heard read s

  -- the calls of an operator that ended
  pub calls_of : (start now : S) (unread blank left written : Option (List ℕ)) (end : OperatorEnd) (may_close : Type 0) → Ends start unread blank end may_close now left written → (calls : List Deed) × AreOperators calls × Goings start calls now
  calls_of start now unread blank left written end may_close o =
      (o.calls, listens_operators start now (cut o.front).0 o.calls o.said o.listens, listens_goes start now (cut o.front).0 o.calls o.said o.listens)
