-- A PCReq of one request (RFC 5440 section 6.4, RFC 8231 section 6.4): its objects, its bytes, and the requests that are
-- read again.
use Rattle.std.specs.Prelude.{ℕ, ◌^◌, ◌<◌, ◌&&◌, Bool, true, false, List, ◌∷◌, ◌++◌, Option, Some, None, nat_lt}
use Rattle.pcep_word.specs.Word.{IsBandwidth, IsBound}
use Rattle.lsp_words.specs.declared.object.MetricType.{MetricType}
use Rattle.lsp_words.specs.declared.object.MetricType.TheVariants.{Igp, Te, Hops}
use Rattle.pcep_objects.specs.declared.object.Metric.{Metric}
use Rattle.pcep_objects.specs.declared.object.Object.{Object}
use Rattle.pcep_objects.specs.declared.object.Object.TheVariants as objects
use Rattle.pcep_messages.specs.Constraints.{metric_number}
use Rattle.pcep_messages.specs.Normal.{IsWord, ArePriorities}
use Rattle.pcep_messages.specs.Spelling.{rp_object, lsp_object, end_points_object, objects_spelled, message_spelled}
use Rattle.pcep_messages.specs.declared.message.Bounds.{Bounds}
use Rattle.pcep_messages.specs.declared.message.PathRequest.{PathRequest}
use Rattle.item_messages.specs.Objects.{if_any, wish_objects}

-- the TE metric is what counts if no METRIC says which is to be least
abbrev pub least_of : MetricType → Option Metric
least_of Te = None
least_of kind = Some (record { bound = false; computed = false; metric_type = metric_number kind; value = 0 })

-- a METRIC with B set
abbrev pub bound_object : MetricType → ℕ → Object
bound_object kind value = objects.Metric (record { bound = true; computed = false; metric_type = metric_number kind; value = value })

abbrev pub bound_objects : Bounds → List Object
bound_objects bounds = if_any (bound_object Igp) bounds.igp ++ if_any (bound_object Te) bounds.te ++ if_any (bound_object Hops) bounds.hops

abbrev pub metric_objects : PathRequest → List Object
metric_objects r = if_any (λ metric. objects.Metric metric) (least_of r.minimise) ++ bound_objects r.bounds

-- RP END-POINTS [LSP]
abbrev pub ends_objects : PathRequest → List Object
ends_objects r =
    rp_object true r.request ∷ end_points_object r.source r.destination
    ∷ if_any (λ plsp. objects.Lsp (lsp_object plsp false false None)) r.plsp

-- RP END-POINTS [LSP] [LSPA] [BANDWIDTH], and up to four METRICs
abbrev pub request_objects : PathRequest → List Object
request_objects r = ends_objects r ++ wish_objects r.priorities r.colours false r.bandwidth ++ metric_objects r

-- the bytes of the message
unfoldable pub request_written : PathRequest → List ℕ
request_written r = message_spelled 3 (objects_spelled (request_objects r))

-- a word for a bound is of a number below 2 ^ 48
abbrev pub bound_fits : Option ℕ → Bool
bound_fits None = true
bound_fits (Some bound) = nat_lt bound (2 ^ 48)

abbrev pub bounds_fit : Bounds → Bool
bounds_fit bounds = bound_fits bounds.igp && bound_fits bounds.te && bound_fits bounds.hops

unfoldable pub request_fits : PathRequest → Bool
request_fits r = bounds_fit r.bounds

abbrev pub MayBePlsp : Option ℕ → Type 0
MayBePlsp None = Unit {0}
MayBePlsp (Some plsp) = plsp < 2 ^ 20

abbrev pub MayBeBound : Option ℕ → Type 0
MayBeBound None = Unit {0}
MayBeBound (Some bound) = IsBound bound

-- a request that the wire can have: each request that bytes read as is one
pub record IsRequest (r : PathRequest) : Type 0 where
  pub request : IsWord r.request
  pub plsp : MayBePlsp r.plsp
  pub source : IsWord r.source
  pub destination : IsWord r.destination
  pub bandwidth : IsBandwidth r.bandwidth
  pub exclude_any : IsWord r.colours.exclude_any
  pub include_any : IsWord r.colours.include_any
  pub include_all : IsWord r.colours.include_all
  pub priorities : ArePriorities r.priorities
  pub igp : MayBeBound (r.bounds).igp
  pub te : MayBeBound (r.bounds).te
  pub hops : MayBeBound (r.bounds).hops
