use Rattle.std.proofs.Common.{◌≡◌, List, ℕ, false, option_map, IfOk, sym, subst, ◌∙◌, rules}
use Rattle.std.specs.List.{list_any}
use Rattle.std.specs.Result.{result_ok}
use Rattle.hex.specs.Hex.{decode_of}
use Rattle.asks.specs.Words.{is_space}
use Rattle.script_lines.specs.Words.{without_spaces}
use Rattle.script_lines.proofs.Spaces.{stays}
use Rattle.script_lines.proofs.words.octets_in.Goals as goal

pub returns-then-not-contains : goal.returns-then-not-contains
returns-then-not-contains c =
    let none : list_any is_space c.args.text.now ≡ false = search rules in
    let same : without_spaces c.args.text.now ≡ c.args.text.now = stays c.args.text.now none in
    let bytes : c.as_bytes-then-not-contains.result.now ≡ c.args.text.now = search rules in
    subst (λ (digits : List ℕ). IfOk c.decoded.result (λ found. option_map (λ bytes. bytes.items) found ≡ result_ok (decode_of digits))) (bytes ∙ sym same) c.decoded.ensures
