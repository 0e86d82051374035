-- A name of plain bytes is UTF-8.
use Rattle.std.proofs.Common.{◌≡◌, ◌<◌, ℕ, true, List, IsUtf8, arith}
use Rattle.std.specs.List.{list_all}
use Rattle.std.proofs.lemmas.Bool.Decides.{nat_tests}
use Rattle.std.proofs.lemmas.List.Elements.{All-weaker}
use Rattle.std.proofs.lemmas.List.Sums.{AllPass-from_list_all}
use Rattle.std.proofs.lemmas.Str.{IsUtf8-from_ascii}
use Rattle.std.proofs.lemmas.Str.Ascii.{IsAscii-from_all}
use Rattle.message_words.specs.Fields.{is_plain}

plain_is_low : (byte : ℕ) → is_plain byte ≡ true → byte < 128
plain_is_low byte is = grind (arith, nat_tests)

pub plain_is_utf8 : (name : List ℕ) → list_all is_plain name ≡ true → IsUtf8 name
plain_is_utf8 name is =
    IsUtf8-from_ascii name (IsAscii-from_all name (All-weaker (λ byte. is_plain byte ≡ true) (λ byte. byte < 128) plain_is_low name (AllPass-from_list_all is_plain name is)))
