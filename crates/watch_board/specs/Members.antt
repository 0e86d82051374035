-- Members of a document of JSON. One that isn't there, or of another kind, is empty, 0 or false.
use Rattle.std.specs.Prelude.{ℕ, ℤ, pos, Bool, false, List, [], Option, option_and_then, unwrap_or}
use Rattle.serde_json.specs.Data.{Data, Items, no_items}
use Rattle.serde_json.specs.Find.{get, at, as_array, as_bool, as_i64, as_number, as_str, as_u64}

abbrev pub text_in : List ℕ → Data → List ℕ
text_in name d = unwrap_or (option_and_then as_str (get name d)) []

abbrev pub number_in : List ℕ → Data → Option ℕ
number_in name d = option_and_then (λ v. option_and_then as_u64 (as_number v)) (get name d)

abbrev pub whole_in : List ℕ → Data → ℕ
whole_in name d = unwrap_or (number_in name d) 0

abbrev pub flag_in : List ℕ → Data → Bool
flag_in name d = unwrap_or (option_and_then as_bool (get name d)) false

abbrev pub items_in : List ℕ → Data → Items
items_in name d = unwrap_or (option_and_then as_array (get name d)) no_items

-- the number at a place of a list
abbrev pub amount_in : List ℕ → ℕ → Data → ℤ
amount_in name place d = unwrap_or (option_and_then (λ v. option_and_then as_i64 (as_number v)) (option_and_then (at place) (get name d))) (pos 0)
