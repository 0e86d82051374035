-- What an operator's line may ask for.
use Rattle.std.proofs.Common.{◌≡◌, ◌∙◌, ℕ, Bool, true, false, cond, List, Option, Some, None, option_map, option_and_then, codes, length, nat_le, ◌<◌, ◌&&◌, refl, sym, ap, subst, arith, IfOk, IfErr, IsSome, Result, Ok, Err, if◌then◌else◌}
use Rattle.std.proofs.lemmas.Bool.Decides.{nat_tests}
use Rattle.std.specs.Str.{bytes_eq, is_utf8}
use Rattle.step_core.specs.declared.event.Event.{Event}
use Rattle.step_core.specs.declared.event.Event.TheVariants.{Ask, Return, Delete, Refused}
use Rattle.commit_core.specs.declared.ticket.Purpose.TheVariants.{Update, Initiate}
use Rattle.asks.specs.Lines.{limited_path_in, lsp_in, path_in, rated_path_in}
use Rattle.asks.specs.Words.{cut_at_space, number_in, peer_in}
use Rattle.asks.specs.declared.ask.LspId.{LspId}
use Rattle.asks.specs.declared.ask.PathWanted.{PathWanted}
use Rattle.script_lines.specs.Commands.{constraints_of, named_event, named_in, request_event, lsp_event, initiate_event, rated_event, place_event, drop_event, operator_event_with, server_event_with, operator_event_in}
use Rattle.script_lines.specs.Views.{view_line_in}
use Rattle.script_lines.specs.declared.views.ViewLine.{ViewLine}
use Rattle.script_lines.specs.Words.{name_in}
use Rattle.server_talk.specs.declared.requests.Request.{Request}
use Rattle.server_talk.specs.declared.requests.Request.TheVariants.{Submit}
use Rattle.server_talk.specs.Listening.{AreKept, Asks as AnswersLines}
use Rattle.line_names.specs.Plain.{has_names}
use Rattle.server_talk.specs.Naming.{if_named, is_named, IsNamedText}
use Rattle.server_talk.specs.Notes.{MayExplain}
use Rattle.server_talk.specs.Requests.{bare, is_operators, line_limit, request_in, request_of, view_or_event}

-- an event that is found is one of an operator
abbrev Fits : Option Event → Type 0
Fits found = (event : Event) → found ≡ Some event → is_operators event ≡ true

fits_none : Fits None
fits_none event is = cc

fits_some : (e : Event) → is_operators e ≡ true → Fits (Some e)
fits_some e fits event is = let same : e ≡ event = cc in subst (λ (x : Event). is_operators x ≡ true) same fits

fits_either : (b : Bool) (x y : Option Event) → Fits x → Fits y → Fits (if b then x else y)
fits_either true x y h k = h
fits_either false x y h k = k

fits_then : {A : Type 0} (o : Option A) (f : A → Option Event) → ((a : A) → Fits (f a)) → Fits (option_and_then f o)
fits_then None f each = fits_none
fits_then (Some a) f each = each a

fits_lsp : (of : ℕ → ℕ → Event) (lsp : Option LspId) → ((peer plsp : ℕ) → is_operators (of peer plsp) ≡ true) → Fits (lsp_event of lsp)
fits_lsp of None each = fits_none
fits_lsp of (Some lsp) each = fits_some (of lsp.peer lsp.plsp) (each lsp.peer lsp.plsp)

fits_named : (peer : ℕ) (wanted : PathWanted) (name : Option (List ℕ)) → Fits (named_event peer wanted name)
fits_named peer wanted None = fits_none
fits_named peer wanted (Some name) = fits_some (Ask peer (Initiate name (constraints_of wanted))) refl

fits_request : (peer : ℕ) (name : List ℕ) (wanted : Option PathWanted) → Fits (request_event peer name wanted)
fits_request peer name None = fits_none
fits_request peer name (Some wanted) = fits_named peer wanted (name_in name)

fits_initiate : (rest : List ℕ) → Fits (initiate_event rest)
unfolding initiate_event
fits_initiate rest = fits_then (named_in rest) _ (λ named. fits_request named.0 named.1 (path_in named.2))

fits_rated : (rest : List ℕ) → Fits (rated_event rest)
unfolding rated_event
fits_rated rest = fits_then (named_in rest) _ (λ named. fits_request named.0 named.1 (rated_path_in named.2))

fits_place : (rest : List ℕ) → Fits (place_event rest)
unfolding place_event
fits_place rest = fits_then (named_in rest) _ (λ named. fits_request named.0 named.1 (limited_path_in named.2))

fits_word : (word rest : List ℕ) → Fits (operator_event_with word rest)
unfolding operator_event_with
fits_word word rest =
    fits_either (bytes_eq word (codes "return")) _ _ (fits_lsp (λ peer plsp. Return peer plsp) (lsp_in rest) (λ peer plsp. refl))
    (fits_either (bytes_eq word (codes "update")) _ _ (fits_lsp (λ peer plsp. Ask peer (Update plsp)) (lsp_in rest) (λ peer plsp. refl))
    (fits_either (bytes_eq word (codes "delete")) _ _ (fits_lsp (λ peer plsp. Delete peer plsp) (lsp_in rest) (λ peer plsp. refl))
    (fits_either (bytes_eq word (codes "initiate")) _ _ (fits_initiate rest) fits_none)))

fits_drop : (rest : List ℕ) → Fits (drop_event rest)
unfolding drop_event
fits_drop rest =
    fits_then (cut_at_space rest) _ (λ words.
    fits_then (peer_in words.0) _ (λ peer.
    fits_then (number_in words.1) _ (λ srp. fits_some (Refused peer srp) refl)))

fits_server : (word rest : List ℕ) → Fits (server_event_with word rest)
unfolding server_event_with
fits_server word rest =
    fits_either (bytes_eq word (codes "drop")) _ _ (fits_drop rest)
    (fits_either (bytes_eq word (codes "initiate")) _ _ (fits_rated rest)
    (fits_either (bytes_eq word (codes "place")) _ _ (fits_place rest) (fits_word word rest)))

fits_line : (line : List ℕ) → Fits (operator_event_in line)
unfolding operator_event_in
fits_line line = fits_then (cut_at_space line) _ (λ words. fits_server words.0 words.1)

-- the same for what a line asks for
abbrev Asks : Option Request → Type 0
Asks found = (event : Event) → found ≡ Some (Submit event) → is_operators event ≡ true

asks_either : (b : Bool) (x y : Option Request) → Asks x → Asks y → Asks (if b then x else y)
asks_either true x y h k = h
asks_either false x y h k = k

asks_event : (found : Option Event) → Fits found → Asks (option_map Submit found)
asks_event None fits event is = cc
asks_event (Some e) fits event is = let same : e ≡ event = cc in fits event (rw same refl)

asks_view : (view : Option ViewLine) (found : Option Event) → Fits found → Asks (view_or_event view found)
asks_view (Some view) found fits event is = cc
asks_view None found fits event is = asks_event found fits event is

asks_text : (line : List ℕ) → Asks (request_in line)
unfolding request_in
asks_text line =
    asks_either (bytes_eq line (codes "book")) _ _ (λ event is. cc)
    (asks_either (bytes_eq line (codes "end")) _ _ (λ event is. cc)
    (asks_either (bytes_eq line (codes "reload")) _ _ (λ event is. cc)
    (asks_either (bytes_eq line (codes "reload check")) _ _ (λ event is. cc) (asks_view (view_line_in line) (operator_event_in line) (fits_line line)))))

asks_line : (line : List ℕ) → Asks (request_of line)
unfolding request_of
asks_line line = asks_either (nat_le (length line) line_limit && is_utf8 line) _ _ (asks_text (bare line)) (λ event is. cc)

pub operators_alone : (line : List ℕ) (event : Event) → request_of line ≡ Some (Submit event) → is_operators event ≡ true
operators_alone line event is = asks_line line event is

-- the kept bytes of a line, depending on whether it is too long
pub too_long : (is_long : Bool) (bytes line : List ℕ) → is_long ≡ true → AreKept is_long bytes line → line_limit < length line
too_long true bytes line long h = h
too_long false bytes line long h = cc

pub all_kept : (is_long : Bool) (bytes line : List ℕ) → is_long ≡ false → AreKept is_long bytes line → bytes ≡ line
all_kept true bytes line short h = cc
all_kept false bytes line short h = h.0

-- the line that was found is the one whose answer is to be explained
pub explains_what_is_asked : (given found : Option (List ℕ)) → given ≡ found → MayExplain given found
explains_what_is_asked None found is = tt
explains_what_is_asked (Some line) found is = sym is

-- a line that is too long asks for nothing
pub long_is_bad : (line : List ℕ) → line_limit < length line → None ≡ request_of line
unfolding request_of
long_is_bad line long = let no : nat_le (length line) 4096 ≡ false = grind (arith, nat_tests) in rw no refl

-- a line that is too long is given no addresses
pub long_has_no_names : (line : List ℕ) → line_limit < length line → is_named line ≡ false
unfolding is_named
long_has_no_names line long = let no : nat_le (length line) 4096 ≡ false = grind (arith, nat_tests) in rw no refl

named_by : (b : Bool) (line : List ℕ) → is_named line ≡ b → IsNamedText (cond b (Some (bare line)) None) line
named_by true line is = (refl, is)
named_by false line is = is

-- a line that can be read has names if its text without the word `words` has
pub named_text : (line text plain : List ℕ) (found : Option (List ℕ)) → nat_le (length line) 4096 ≡ true → is_utf8 line ≡ true → text ≡ line → plain ≡ bare text → found ≡ if_named plain → IsNamedText found line
unfolding is_named
named_text line text plain found short valid same without is =
    let named : is_named line ≡ has_names (bare line) = rw (short, valid) refl in
    subst (λ (x : Option (List ℕ)). IsNamedText x line) (sym (is ∙ ap if_named (without ∙ ap bare same))) (named_by (has_names (bare line)) line named)

-- what is asked for is returned, or memory ran out for something
pub given_what_is_asked : {E : Type 0} (r : Result (Option Request) E) (asked : Option Request) → IfOk r (λ request. request ≡ asked) → IfErr r (λ _. IsSome asked) → AnswersLines r asked
given_what_is_asked (Ok request) asked is some = is
given_what_is_asked (Err fault) (Some request) is some = tt
given_what_is_asked (Err fault) None is some = cc

pub some_asked : {E : Type 0} (fault : E) (asked : Option Request) → AnswersLines (Err fault) asked → IsSome asked
some_asked fault (Some request) h = refl
some_asked fault None h = absurd h
