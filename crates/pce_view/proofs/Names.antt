-- Bytes as a text, where they are UTF-8.
use Rattle.std.proofs.Common.{◌≡◌, ℕ, List}
use Rattle.std.specs.Str.{IsUtf8}
use Rattle.std.proofs.lemmas.Bool.{cond-false, cond-true, false_from_ne_true}
use Rattle.std.proofs.lemmas.Str.{IsUtf8-from_is_utf8, is_utf8-from_IsUtf8}
use Rattle.json.specs.Json.{null, string}
use Rattle.pce_view.specs.Fields.{text_or_null}

pub as_text : (bytes : List ℕ) → IsUtf8 bytes → text_or_null bytes ≡ string bytes
as_text bytes is = cond-true _ _ null (is_utf8-from_IsUtf8 bytes is)

pub as_null : (bytes : List ℕ) → ¬ (IsUtf8 bytes) → text_or_null bytes ≡ null
as_null bytes isnt = cond-false _ (string bytes) null (false_from_ne_true _ (λ e. isnt (IsUtf8-from_is_utf8 bytes e)))
