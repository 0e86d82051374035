-- What lines ask to see, and in which form.
use Rattle.std.specs.Prelude.{ℕ, true, false, List, Option, Some, None, option_map, codes, if◌then◌else◌}
use Rattle.std.specs.Str.{bytes_eq}
use Rattle.asks.specs.Lines.{ask_in}
use Rattle.asks.specs.Words.{cut_at_space}
use Rattle.script_lines.specs.declared.views.ViewLine.{ViewLine}

-- what stands after the word `json`
abbrev pub behind_json : Option (List ℕ × List ℕ) → Option (List ℕ)
behind_json None = None
behind_json (Some words) = if bytes_eq words.0 (codes "json") then Some words.1 else None

abbrev pub json_in : List ℕ → Option (List ℕ)
json_in line = behind_json (cut_at_space line)

-- a view as a table, unless JSON is asked for
abbrev pub view_line : List ℕ → Option (List ℕ) → Option ViewLine
view_line line None = option_map (λ ask. record { ask = ask; is_json = false }) (ask_in line)
view_line line (Some rest) = option_map (λ ask. record { ask = ask; is_json = true }) (ask_in rest)

-- what a line asks to see
unfoldable pub view_line_in : List ℕ → Option ViewLine
view_line_in line = view_line line (json_in line)
