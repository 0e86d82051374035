-- The limits of a path, as the keys of `place` give them.
use Rattle.std.specs.Prelude.{ℕ, ◌==◌, ◌||◌, Bool, true, false, not, List, [], codes, Option, None, Some, is_some, if◌then◌else◌}
use Rattle.std.specs.Fmt.{decimal, digits}
use Rattle.asks.specs.declared.ask.PathLimits.{PathLimits}
use Rattle.lsp_words.specs.declared.object.MetricType.{MetricType}
use Rattle.lsp_words.specs.declared.object.MetricType.TheVariants.{Igp, Te, Hops}
use Rattle.server_log.specs.Joining.{◌+>◌}
use Rattle.server_log.specs.declared.limits.LimitKey.{LimitKey}
use Rattle.server_log.specs.declared.limits.LimitKey.TheVariants as key

abbrev pub is_te : MetricType → Bool
is_te Te = true
is_te other = false

-- something is limited that isn't without a key
abbrev pub is_limited : PathLimits → Bool
is_limited l = not (is_te l.minimise) || is_some l.max_cost || is_some l.max_hops
    || not ((l.colours).exclude_any == 0) || not ((l.colours).include_any == 0) || not ((l.colours).include_all == 0)

-- the word of the line that asks for an LSP whose path has these limits
abbrev pub line_word : PathLimits → List ℕ
line_word l = if is_limited l then codes "place" else codes "initiate"

-- ---- keys

abbrev pub metric_text : MetricType → List ℕ
metric_text Te = []
metric_text Igp = codes " metric=igp"
metric_text Hops = codes " metric=hops"

abbrev pub key_word : LimitKey → List ℕ
key_word key.MaxCost = codes "max-cost"
key_word key.MaxHops = codes "max-hops"
key_word key.Exclude = codes "exclude"
key_word key.IncludeAny = codes "include-any"
key_word key.IncludeAll = codes "include-all"

-- a key with a number, or nothing
abbrev pub most_text : LimitKey → Option ℕ → List ℕ
most_text key None = []
most_text key (Some n) = codes " " +> key_word key +> codes "=" +> decimal n

-- a key with a set of colours in hexadecimal digits, or nothing if the set is empty
abbrev pub colours_text : LimitKey → ℕ → List ℕ
colours_text key colours = if colours == 0 then [] else codes " " +> key_word key +> codes "=0x" +> digits 16 false colours

abbrev pub limits_text : PathLimits → List ℕ
limits_text l =
    metric_text l.minimise +> most_text key.MaxCost l.max_cost +> most_text key.MaxHops l.max_hops
    +> colours_text key.Exclude (l.colours).exclude_any +> colours_text key.IncludeAny (l.colours).include_any +> colours_text key.IncludeAll (l.colours).include_all
