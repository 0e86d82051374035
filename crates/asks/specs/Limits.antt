-- Limits of a path, as the keys of a line or a query give them.
use Rattle.std.specs.Prelude.{ℕ, ◌^◌, ◌==◌, ◌&&◌, nat_lt, Bool, List, length, fold, codes, unwrap_or, Option, Some, None, Result, Ok, Err, if◌then◌else◌}
use Rattle.std.specs.Char.{digit_value}
use Rattle.std.specs.List.{list_all, slice_split}
use Rattle.std.specs.Str.{bytes_eq}
use Rattle.std.specs.Str.Parse.{digits_value}
use Rattle.lsp_words.specs.declared.object.MetricType.{MetricType}
use Rattle.lsp_words.specs.declared.object.MetricType.TheVariants.{Te, Igp, Hops}
use Rattle.asks.specs.Words.{cut_at, long_number_in}
use Rattle.asks.specs.declared.ask.PathLimits.{PathLimits}
use Rattle.asks.specs.declared.limits.PathKeys.{PathKeys}
use Rattle.asks.specs.declared.limits.KeyFault.{KeyFault}
use Rattle.asks.specs.declared.limits.KeyFault.TheVariants as fault

-- ---- values

-- the metric that is to be least (RFC 5440 section 7.8)
unfoldable pub metric_in : List ℕ → Option MetricType
metric_in word =
    if bytes_eq word (codes "te") then Some Te
    else if bytes_eq word (codes "igp") then Some Igp
    else if bytes_eq word (codes "hops") then Some Hops
    else None

abbrev pub is_hex_digit : ℕ → Bool
is_hex_digit byte = nat_lt (digit_value byte) 16

abbrev pub hex_number_in : List ℕ → Option ℕ
hex_number_in word =
    if list_all is_hex_digit word && nat_lt 0 (length word) && nat_lt (digits_value 16 word) (2 ^ 32) then Some (digits_value 16 word) else None

-- what comes after `0x`
abbrev pub behind_zero : Option (List ℕ × List ℕ) → Option ℕ
behind_zero None = None
behind_zero (Some cut) = if bytes_eq cut.0 (codes "0") then hex_number_in cut.1 else None

-- `0xN`: a set of colours, one for each bit
unfoldable pub colours_in : List ℕ → Option ℕ
colours_in word = behind_zero (cut_at 120 word)

-- ---- keys

-- a value that is good and the first of its key
abbrev pub once : {A : Type 0} → Option A → Option A → Result (Option A) KeyFault
once None (Some value) = Ok (Some value)
once None None = Err fault.Value
once (Some had) value = Err fault.Value

abbrev pub result_map : {A B : Type 0} → (A → B) → Result A KeyFault → Result B KeyFault
result_map f (Ok x) = Ok (f x)
result_map f (Err w) = Err w

abbrev pub no_keys : PathKeys
no_keys = record { metric = None; max_cost = None; max_hops = None; exclude = None; include_any = None; include_all = None }

unfoldable pub with_key : PathKeys → List ℕ → List ℕ → Result PathKeys KeyFault
with_key keys name value =
    if bytes_eq name (codes "metric") then result_map (λ v. record keys { metric = v }) (once keys.metric (metric_in value))
    else if bytes_eq name (codes "max-cost") then result_map (λ v. record keys { max_cost = v }) (once keys.max_cost (long_number_in value))
    else if bytes_eq name (codes "max-hops") then result_map (λ v. record keys { max_hops = v }) (once keys.max_hops (long_number_in value))
    else if bytes_eq name (codes "exclude") then result_map (λ v. record keys { exclude = v }) (once keys.exclude (colours_in value))
    else if bytes_eq name (codes "include-any") then result_map (λ v. record keys { include_any = v }) (once keys.include_any (colours_in value))
    else if bytes_eq name (codes "include-all") then result_map (λ v. record keys { include_all = v }) (once keys.include_all (colours_in value))
    else Err fault.Name

abbrev pub with_cut : PathKeys → Option (List ℕ × List ℕ) → Result PathKeys KeyFault
with_cut keys None = Err fault.Name
with_cut keys (Some cut) = with_key keys cut.0 cut.1

-- `KEY=VALUE`
abbrev pub with_word : Result PathKeys KeyFault → List ℕ → Result PathKeys KeyFault
with_word (Err w) word = Err w
with_word (Ok keys) word = with_cut keys (cut_at 61 word)

-- keys with their values, between spaces
abbrev pub keys_in : List ℕ → Result PathKeys KeyFault
keys_in line = fold with_word (Ok no_keys) (slice_split (λ b. b == 32) line)

-- ---- limits

-- Without a key the TE metric is to be least, and nothing else is limited.
abbrev pub limits_of : PathKeys → PathLimits
limits_of keys = record {
  minimise = unwrap_or keys.metric Te;
  max_cost = keys.max_cost;
  max_hops = keys.max_hops;
  colours = record { exclude_any = unwrap_or keys.exclude 0; include_any = unwrap_or keys.include_any 0; include_all = unwrap_or keys.include_all 0 };
}

abbrev pub no_limits : PathLimits
no_limits = limits_of no_keys

abbrev pub limits_given : Result PathKeys KeyFault → Option PathLimits
limits_given (Ok keys) = Some (limits_of keys)
limits_given (Err w) = None

abbrev pub limits_in : List ℕ → Option PathLimits
limits_in line = limits_given (keys_in line)
