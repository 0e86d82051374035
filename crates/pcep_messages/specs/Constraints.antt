-- What the objects of a request ask of a path (RFC 5440 section 6.4, RFC 8231 section 6.4). Each METRIC counts.
use Rattle.std.specs.Prelude.{ℕ, min, Bool, true, false, ◌&&◌, List, map, fold, Option, Some, None, nat_lt, ◌==◌, if◌then◌else◌}
use Rattle.std.specs.Option.{unwrap_or}
use Rattle.pcep_objects.specs.declared.object.BandwidthType.TheVariants.{Requested}
use Rattle.pcep_objects.specs.declared.object.Object.{Object}
use Rattle.pcep_objects.specs.declared.object.Object.TheVariants as objects
use Rattle.pcep_messages.specs.Counting.{bandwidth_of}
use Rattle.pcep_messages.specs.declared.message.Bounds.{Bounds}
use Rattle.lsp_words.specs.declared.object.MetricType.{MetricType}
use Rattle.lsp_words.specs.declared.object.MetricType.TheVariants.{Igp, Te, Hops}

-- the PLSP-ID of an object, if it has one
abbrev pub plsp_of : Object → Option ℕ
plsp_of (objects.Lsp lsp) = Some lsp.plsp
plsp_of object = None

abbrev pub is_rro : Object → Bool
is_rro (objects.Rro hops) = true
is_rro object = false

-- the object is a BANDWIDTH of either type above 0
abbrev pub is_above_zero : Object → Bool
is_above_zero object = nat_lt 0 (bandwidth_of object)

-- the bandwidth that an object asks for; the type for an existing LSP asks for none
abbrev pub bandwidth_asked : Object → ℕ
bandwidth_asked (objects.Bandwidth Requested bandwidth) = bandwidth
bandwidth_asked object = 0

-- the types of metrics (RFC 5440 section 7.8)
abbrev pub metric_number : MetricType → ℕ
metric_number Igp = 1
metric_number Te = 2
metric_number Hops = 3

-- a metric by its type; any other type is ignored
abbrev pub metric_type : ℕ → Option MetricType
metric_type number =
    if number == metric_number Igp then Some Igp
    else (if number == metric_number Te then Some Te
    else (if number == metric_number Hops then Some Hops else None))

-- a METRIC with B clear says which metric is to be minimised
abbrev pub minimised_by : Object → Option MetricType
minimised_by (objects.Metric metric) = if metric.bound then None else metric_type metric.metric_type
minimised_by object = None

-- the TE metric if no object names one
abbrev pub or_te : Option MetricType → MetricType
or_te minimised = unwrap_or minimised Te

-- a METRIC with B set bounds its metric
abbrev pub bound_on : ℕ → Object → Option ℕ
bound_on number (objects.Metric metric) = if metric.bound && metric.metric_type == number then Some metric.value else None
bound_on number object = None

-- the lesser of two bounds, either of which may be missing
abbrev pub lesser : Option ℕ → Option ℕ → Option ℕ
lesser None other = other
lesser (Some bound) None = Some bound
lesser (Some bound) (Some other) = Some (min bound other)

abbrev pub least_bound : ℕ → List Object → Option ℕ
least_bound number objects = fold lesser None (map (bound_on number) objects)

abbrev pub bounds_of : List Object → Bounds
bounds_of objects = record {
  igp = least_bound (metric_number Igp) objects;
  te = least_bound (metric_number Te) objects;
  hops = least_bound (metric_number Hops) objects;
}
