use Rattle.std.proofs.Common.{◌≡◌, List, ℕ, Option, Some, None, option_map, string_bytes, sym, subst}
use Rattle.std.specs.Prelude.{IfSome}
use Rattle.std.specs.declared.alloc.Global.{Global}
use Rattle.std.specs.declared.string.String.{String}
use Rattle.answer_words.specs.Sentences.{IsSentenceOf, line_of}
use Rattle.server_talk.specs.Listening.{said_of}
use Rattle.server_talk.specs.Notes.{IsNote}
use Rattle.server_talk.specs.Requests.{explained_in}
use Rattle.server_talk.proofs.operator.note_for.Goals as goal

-- a sentence that was found, or none
noted : (note : Option (String Global)) (found : Option (List ℕ)) (asked answer : List ℕ) → found ≡ Some asked → IfSome note (λ said. IsSentenceOf (line_of answer) (string_bytes said))
    → IsNote (option_map (λ said. string_bytes said) note) found answer
noted None found asked answer is h = tt
noted (Some said) found asked answer is h = subst (λ (o : Option (List ℕ)). IsNote (Some (string_bytes said)) o answer) (sym is) h

pub returns-in-Some : goal.returns-in-Some
returns-in-Some c = λ text kept.
    noted c.note_on.result (explained_in text) c.in-Some.asked.now (said_of c.args.line.now.number c.args.answer.now) (c.in-Some.ensures text kept) c.note_on.ensures
