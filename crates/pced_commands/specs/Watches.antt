-- When the lines of `pced tell` ask to watch.
use Rattle.std.specs.Prelude.{ℕ, ◌&&◌, nat_le, Bool, List, [], ◌∷◌, codes, Option, Some, None, if◌then◌else◌}
use Rattle.std.specs.Str.{bytes_eq}
use Rattle.asks.specs.Words.{cut_at_space, long_number_in}
use Rattle.pced_commands.specs.Tells.{first_word}
use Rattle.pced_commands.specs.declared.watch_word.WatchWord.{WatchWord}
use Rattle.pced_commands.specs.declared.watch_word.WatchWord.TheVariants.{Absent, Bad, Every}

abbrev pub is_watch : List ℕ → Bool
is_watch word = bytes_eq word (codes "watch")

-- a second at least, and an hour at most
abbrev pub pause_of : Option ℕ → WatchWord
pause_of None = Bad
pause_of (Some seconds) = if nat_le 1 seconds && nat_le seconds 3600 then Every seconds else Bad

-- only `watch`, or with its seconds in the same word
abbrev pub pause_after : Option (List ℕ × List ℕ) → WatchWord
pause_after None = Every 2
pause_after (Some parts) = pause_of (long_number_in parts.1)

-- only a first line can ask for it, and nothing may follow but the seconds
abbrev pub watch_in : List (List ℕ) → WatchWord
watch_in [] = Absent
watch_in (line ∷ []) = if is_watch (first_word line) then pause_after (cut_at_space line) else Absent
watch_in (line ∷ seconds ∷ []) = if is_watch line then pause_of (long_number_in seconds) else if is_watch (first_word line) then Bad else Absent
watch_in (line ∷ _ ∷ _ ∷ _) = if is_watch (first_word line) then Bad else Absent
