-- A name as a text, if it is UTF-8.
use Rattle.std.proofs.Common.{◌≡◌, ℕ, List}
use Rattle.std.specs.Str.{IsUtf8}
use Rattle.std.proofs.lemmas.Bool.{cond-false, cond-true, false_from_ne_true}
use Rattle.std.proofs.lemmas.Str.{IsUtf8-from_is_utf8, is_utf8-from_IsUtf8}
use Rattle.table_text.specs.Names.{bytes_words, shown_name, shown_text}

pub as_text : (name : List ℕ) → IsUtf8 name → shown_name name ≡ shown_text name
as_text name is = cond-true _ _ (bytes_words name) (is_utf8-from_IsUtf8 name is)

pub as_bytes : (name : List ℕ) → ¬ (IsUtf8 name) → shown_name name ≡ bytes_words name
as_bytes name isnt = cond-false _ (shown_text name) (bytes_words name) (false_from_ne_true _ (λ e. isnt (IsUtf8-from_is_utf8 name e)))
