-- Lines with the time, and steps behind them.
use Rattle.std.proofs.Common.{◌≡◌, ℕ, true, List, [], ◌∷◌, ◌++◌, Option}
use Rattle.std.specs.Io.KnownBytes.{Appends}
use Rattle.std.proofs.KnownBytes.{Appends-nil, Appends-trans}
use Rattle.history_core.specs.declared.step.Step.{Step}
use Rattle.journal_files.specs.Moments.{is_moment}
use Rattle.line_words.specs.Written.{text_of}
use Rattle.journal_writing.specs.Texts.{lines_of}
use Rattle.server_journal.specs.Writes.{Notes, Writes}

pub no_note : (a : Option (List ℕ)) → Notes a a
no_note a = record { moments = []; are = tt; written = Appends-nil a }

pub one_note : (a b : Option (List ℕ)) (line : List ℕ) → is_moment line ≡ true → Appends a b (line ++ 10 ∷ []) → Notes a b
one_note a b line is written = record { moments = line ∷ []; are = (is, tt); written = written }

pub noted_steps : (a b c : Option (List ℕ)) (place : ℕ) (steps : List Step) → Notes a b → Appends b c (text_of (lines_of place steps)) → Writes place steps a c
noted_steps a b c place steps noted written = record {
  moments = noted.moments;
  are = noted.are;
  written = Appends-trans a b c (text_of noted.moments) (text_of (lines_of place steps)) noted.written written;
}
