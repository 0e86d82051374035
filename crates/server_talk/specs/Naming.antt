-- The line that an operator's line with names of nodes stands for.
use Rattle.std.specs.Prelude.{◌≡◌, ℕ, ◌&&◌, nat_le, Bool, true, false, List, length, Option, Some, None, if◌then◌else◌}
use Rattle.std.specs.Str.{is_utf8}
use Rattle.line_names.specs.Plain.{has_names, plain_line}
use Rattle.line_names.specs.declared.plain.Named.{Named}
use Rattle.server_talk.specs.Requests.{bare, line_limit}
use Rattle.server_talk.specs.Servers.{Server}

-- a line that can be read, and has a word that isn't read as it stands
unfoldable pub is_named : List ℕ → Bool
is_named line = (nat_le (length line) line_limit && is_utf8 line) && has_names (bare line)

abbrev pub if_named : List ℕ → Option (List ℕ)
if_named text = if has_names text then Some text else None

-- the text of a line with names
abbrev pub IsNamedText : Option (List ℕ) → List ℕ → Type 0
IsNamedText None line = is_named line ≡ false
IsNamedText (Some text) line = (text ≡ bare line) × (is_named line ≡ true)

-- A line stands for itself. If it has names, it stands for the line with the addresses that the server then gives them.
pub data StandsFor {S : Type 0} (server : Server S) (now : S) (line : List ℕ) : List ℕ → Type 0 where
  Itself : is_named line ≡ false → StandsFor server now line line
  Plain : (named : Named) → is_named line ≡ true → server.names now (bare line) named → StandsFor server now line (plain_line named (bare line))
