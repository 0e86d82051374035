-- What is asked of a path to answer a request, as the request that asks it.
use Rattle.std.specs.Prelude.{ℕ, ◌==◌, ◌&&◌, not, Bool, false, Option, Some, None, is_none, is_some}
use Rattle.std.specs.Option.{unwrap_or}
use Rattle.lsp_words.specs.declared.object.MetricType.{MetricType}
use Rattle.lsp_words.specs.declared.object.MetricType.TheVariants.{Igp, Te, Hops}
use Rattle.pcep_messages.specs.declared.message.Bounds.{Bounds}
use Rattle.pcep_messages.specs.declared.message.PathRequest.{PathRequest}
use Rattle.lsp_base.specs.declared.lsp.Constraints.{Constraints}
use Rattle.lsp_base.specs.declared.lsp.OtherBounds.{OtherBounds}
use Rattle.commit_core.specs.declared.ticket.Purpose.{Purpose}
use Rattle.commit_core.specs.declared.ticket.Purpose.TheVariants as purposes

-- ---- what a request asks of a path

abbrev pub bound_on : MetricType → Bounds → Option ℕ
bound_on Igp b = b.igp
bound_on Te b = b.te
bound_on Hops b = b.hops

abbrev pub bounds_beside : MetricType → Bounds → OtherBounds
bounds_beside Igp b = record { igp = None; te = b.te }
bounds_beside Te b = record { igp = b.igp; te = None }
bounds_beside Hops b = record { igp = b.igp; te = b.te }

abbrev pub constraints_of : PathRequest → Constraints
constraints_of r = record {
  source = Some r.source;
  destination = Some r.destination;
  bandwidth = r.bandwidth;
  priorities = r.priorities;
  colours = r.colours;
  minimise = r.minimise;
  bound = bound_on r.minimise r.bounds;
  hop_bound = (r.bounds).hops;
  other_bounds = bounds_beside r.minimise r.bounds;
  local_protection = false;
}

abbrev pub purpose_of : PathRequest → Purpose
purpose_of r = purposes.Answer r.request r.plsp (constraints_of r)

-- ---- the request that asks it

abbrev pub bounds_for : MetricType → Option ℕ → Option ℕ → OtherBounds → Bounds
bounds_for Igp bound hops other = record { igp = bound; te = other.te; hops = hops }
bounds_for Te bound hops other = record { igp = other.igp; te = bound; hops = hops }
bounds_for Hops bound hops other = record { igp = other.igp; te = other.te; hops = hops }

abbrev pub request_for : ℕ → Option ℕ → Constraints → PathRequest
request_for request plsp c = record {
  request = request;
  plsp = plsp;
  source = unwrap_or c.source 0;
  destination = unwrap_or c.destination 0;
  bandwidth = c.bandwidth;
  priorities = c.priorities;
  colours = c.colours;
  minimise = c.minimise;
  bounds = bounds_for c.minimise c.bound c.hop_bound c.other_bounds;
}

-- the metric that is to be least has one bound, which stands in one place
abbrev pub same_bound : Option ℕ → Option ℕ → Bool
same_bound None other = is_none other
same_bound (Some bound) None = false
same_bound (Some bound) (Some other) = bound == other

abbrev pub has_one_bound : MetricType → Option ℕ → Option ℕ → OtherBounds → Bool
has_one_bound Igp bound hops other = is_none other.igp
has_one_bound Te bound hops other = is_none other.te
has_one_bound Hops bound hops other = same_bound bound hops

-- a request can ask this of a path
abbrev pub is_asked : Constraints → Bool
is_asked c = is_some c.source && is_some c.destination && has_one_bound c.minimise c.bound c.hop_bound c.other_bounds && not c.local_protection
