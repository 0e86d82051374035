-- What a line prints.
use Rattle.std.specs.Prelude.{ℕ, ◌+◌, List, [], ◌∷◌, ◌++◌, codes, Option, Some, None}
use Rattle.std.specs.Fmt.{decimal}
use Rattle.step_core.specs.declared.event.Event.{Event}
use Rattle.step_core.specs.declared.event.Event.TheVariants as event
use Rattle.step_core.specs.declared.event.Reply.{Reply}
use Rattle.history_core.specs.Briefs.{brief_number, brief_of, brief_word}
use Rattle.history_core.specs.Histories.{Content}
use Rattle.history_core.specs.declared.step.Brief.{Brief}
use Rattle.history_core.specs.declared.step.Step.{Step}

-- the longest word of a reply's text before a number, in bytes
abbrev pub word_bound : ℕ
word_bound = 20

-- the room, in bytes, in which a word and a number are added without asking for memory
abbrev pub number_room : ℕ
number_room = 40

-- the room, in bytes, in which the text of a reply is added without asking for memory
abbrev pub reply_room : ℕ
reply_room = 64

-- the word of a reply, and its number if it has one
abbrev pub numbered : List ℕ → Option ℕ → List ℕ
numbered word None = word
numbered word (Some number) = word ++ (codes " " ++ decimal number)

abbrev pub brief_text : Brief → List ℕ
brief_text b = numbered (brief_word b) (brief_number b)

abbrev pub reply_text : Reply → List ℕ
reply_text r = brief_text (brief_of r)

abbrev pub event_text : Event → List ℕ
event_text (event.Up peer capabilities) = codes "up"
event_text (event.Report peer report) = codes "report"
event_text (event.Marker peer) = codes "marker"
event_text (event.Down peer) = codes "down"
event_text (event.Expire peer) = codes "expire"
event_text (event.Ask peer purpose) = codes "ask"
event_text event.Take = codes "take"
event_text (event.Commit ticket offer) = codes "commit"
event_text (event.Drain peer) = codes "drain"
event_text (event.Refused peer srp) = codes "refused"
event_text (event.Return peer plsp) = codes "return"
event_text (event.Delete peer plsp) = codes "delete"
event_text (event.Reload entries) = codes "reload"

abbrev pub step_line : ℕ → Step → List ℕ
step_line number step = codes "step " ++ decimal number ++ codes " " ++ event_text step.event ++ codes " " ++ brief_text step.brief ++ codes "\n"

-- a line for each step; the first step has this place among all steps
abbrev pub steps_from : ℕ → List Step → List ℕ
steps_from number [] = []
steps_from number (step ∷ steps) = step_line number step ++ steps_from (number + 1) steps

abbrev pub history_text : Content → List ℕ
history_text d = steps_from d.rolled d.history

-- link numbers, each after a comma
abbrev pub more_links : List ℕ → List ℕ
more_links [] = []
more_links (link ∷ links) = codes "," ++ decimal link ++ more_links links

-- link numbers joined by commas
abbrev pub path_text : List ℕ → List ℕ
path_text [] = []
path_text (link ∷ links) = decimal link ++ more_links links

-- what a search answered: `none`, or the links of a path
abbrev pub answer_text : Option (List ℕ) → List ℕ
answer_text None = codes "none"
answer_text (Some links) = path_text links
