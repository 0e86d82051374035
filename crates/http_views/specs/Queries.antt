-- What the query of a request gives under each of its names.
use Rattle.std.specs.Prelude.{ℕ, ◌==◌, List, length, fold, codes, Option, Some, None, Result, Ok, Err, if◌then◌else◌}
use Rattle.std.specs.List.{slice_split}
use Rattle.std.specs.Str.{bytes_eq}
use Rattle.pcep_word.specs.Address.{address_of}
use Rattle.asks.specs.Limits.{no_keys, with_key}
use Rattle.asks.specs.Rates.{bandwidth_or_rate_in}
use Rattle.asks.specs.Words.{long_number_in, priority_in}
use Rattle.asks.specs.declared.limits.KeyFault.{KeyFault}
use Rattle.asks.specs.declared.limits.KeyFault.TheVariants as key
use Rattle.asks.specs.declared.limits.PathKeys.{PathKeys}
use Rattle.http_views.specs.Words.{cut_at}
use Rattle.http_views.specs.declared.query.LspsQuery.{LspsQuery}
use Rattle.http_views.specs.declared.query.PathQuery.{PathQuery}
use Rattle.http_views.specs.declared.query.Wrong.{Wrong}
use Rattle.http_views.specs.declared.query.Wrong.TheVariants as wrong

-- the parts of a query, between `&`
abbrev pub parts : List ℕ → List (List ℕ)
parts query = slice_split (λ b. b == 38) query

-- a valid value that is the first under its name
abbrev pub once : {A : Type 0} → Option A → Option A → Wrong → Result (Option A) Wrong
once None (Some value) w = Ok (Some value)
once None None w = Err w
once (Some had) value w = Err w

abbrev pub result_map : {A B : Type 0} → (A → B) → Result A Wrong → Result B Wrong
result_map f (Ok x) = Ok (f x)
result_map f (Err w) = Err w

-- the query with a part `NAME=VALUE`; an empty part gives nothing
abbrev pub with_field : {A : Type 0} → (List ℕ → List ℕ → Result A Wrong) → Option (List ℕ × List ℕ) → Result A Wrong
with_field f None = Err wrong.Query
with_field f (Some field) = f field.0 field.1

abbrev pub with_part : {A : Type 0} → (A → List ℕ → List ℕ → Result A Wrong) → Result A Wrong → List ℕ → Result A Wrong
with_part f (Err w) part = Err w
with_part f (Ok query) part = if length part == 0 then Ok query else with_field (f query) (cut_at 61 part)

-- ---- a page of LSPs

unfoldable pub with_lsps_value : LspsQuery → List ℕ → List ℕ → Result LspsQuery Wrong
with_lsps_value query name value =
    if bytes_eq name (codes "peer") then result_map (λ v. record query { peer = v }) (once query.peer (address_of value) wrong.Peer)
    else if bytes_eq name (codes "from") then result_map (λ v. record query { from = v }) (once query.from (long_number_in value) wrong.From)
    else Err wrong.Query

abbrev pub with_lsps_part : Result LspsQuery Wrong → List ℕ → Result LspsQuery Wrong
with_lsps_part so_far part = with_part with_lsps_value so_far part

abbrev pub no_lsps_query : LspsQuery
no_lsps_query = record { peer = None; from = None }

abbrev pub lsps_query : List ℕ → Result LspsQuery Wrong
lsps_query query = fold with_lsps_part (Ok no_lsps_query) (parts query)

-- ---- a path

-- a limit of the path
abbrev pub limited : PathQuery → Result PathKeys KeyFault → Result PathQuery Wrong
limited query (Ok keys) = Ok (record query { keys = keys })
limited query (Err key.Name) = Err wrong.Query
limited query (Err key.Value) = Err wrong.Limit

abbrev pub with_limit : PathQuery → List ℕ → List ℕ → Result PathQuery Wrong
with_limit query name value = limited query (with_key query.keys name value)

unfoldable pub with_path_value : PathQuery → List ℕ → List ℕ → Result PathQuery Wrong
with_path_value query name value =
    if bytes_eq name (codes "from") then result_map (λ v. record query { from = v }) (once query.from (address_of value) wrong.From)
    else if bytes_eq name (codes "to") then result_map (λ v. record query { to = v }) (once query.to (address_of value) wrong.To)
    else if bytes_eq name (codes "bandwidth") then result_map (λ v. record query { bandwidth = v }) (once query.bandwidth (bandwidth_or_rate_in value) wrong.Bandwidth)
    else if bytes_eq name (codes "setup") then result_map (λ v. record query { setup = v }) (once query.setup (priority_in value) wrong.Setup)
    else if bytes_eq name (codes "hold") then result_map (λ v. record query { hold = v }) (once query.hold (priority_in value) wrong.Hold)
    else with_limit query name value

abbrev pub with_path_part : Result PathQuery Wrong → List ℕ → Result PathQuery Wrong
with_path_part so_far part = with_part with_path_value so_far part

abbrev pub no_path_query : PathQuery
no_path_query = record { from = None; to = None; bandwidth = None; setup = None; hold = None; keys = no_keys }

abbrev pub path_query : List ℕ → Result PathQuery Wrong
path_query query = fold with_path_part (Ok no_path_query) (parts query)

-- ---- a link

unfoldable pub with_link_value : Option ℕ → List ℕ → List ℕ → Result (Option ℕ) Wrong
with_link_value number name value = if bytes_eq name (codes "number") then once number (long_number_in value) wrong.Number else Err wrong.Query

abbrev pub with_link_part : Result (Option ℕ) Wrong → List ℕ → Result (Option ℕ) Wrong
with_link_part so_far part = with_part with_link_value so_far part

abbrev pub link_query : List ℕ → Result (Option ℕ) Wrong
link_query query = fold with_link_part (Ok None) (parts query)
