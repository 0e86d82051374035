-- Path requests (RFC 5440 section 6.4): what is asked for, and how a request is answered without a search.
use Rattle.std.specs.Prelude.{ℕ, true, false, Option, Some, None}
use Rattle.lsp_words.specs.declared.object.MetricType.{MetricType}
use Rattle.lsp_words.specs.declared.object.MetricType.TheVariants.{Igp, Te, Hops}
use Rattle.pcep_objects.specs.declared.request_objects.NoPathVector.{NoPathVector}
use Rattle.pcep_messages.specs.declared.message.Answer.TheVariants as answers
use Rattle.pcep_messages.specs.declared.message.Bounds.{Bounds}
use Rattle.pcep_messages.specs.declared.message.Message.{Message}
use Rattle.pcep_messages.specs.declared.message.Message.TheVariants as messages
use Rattle.pcep_messages.specs.declared.message.PathRequest.{PathRequest}
use Rattle.lsp_base.specs.declared.lsp.Constraints.{Constraints}
use Rattle.lsp_base.specs.declared.lsp.OtherBounds.{OtherBounds}
use Rattle.lsp_base.specs.declared.why.Ends.{Ends}
use Rattle.lsp_base.specs.declared.why.Ends.TheVariants.{Source, Destination, Both}
use Rattle.lsp_base.specs.declared.why.Why.{Why}
use Rattle.lsp_base.specs.declared.why.Why.TheVariants.{UnknownNode, TooManyTickets}
use Rattle.commit_core.specs.declared.ticket.Purpose.{Purpose}
use Rattle.commit_core.specs.declared.ticket.Purpose.TheVariants as purposes

-- the bound on the metric that the path is to minimise
abbrev pub bound_on : MetricType → Bounds → Option ℕ
bound_on Igp b = b.igp
bound_on Te b = b.te
bound_on Hops b = b.hops

-- the bounds on the other metrics
abbrev pub bounds_beside : MetricType → Bounds → OtherBounds
bounds_beside Igp b = record { igp = None; te = b.te }
bounds_beside Te b = record { igp = b.igp; te = None }
bounds_beside Hops b = record { igp = b.igp; te = b.te }

abbrev pub constraints_of : PathRequest → Constraints
constraints_of r = record {
  source = Some r.source;
  destination = Some r.destination;
  bandwidth = r.bandwidth;
  priorities = r.priorities;
  colours = r.colours;
  minimise = r.minimise;
  bound = bound_on r.minimise r.bounds;
  hop_bound = (r.bounds).hops;
  other_bounds = bounds_beside r.minimise r.bounds;
  local_protection = false;
}

abbrev pub purpose_of : PathRequest → Purpose
purpose_of r = purposes.Answer r.request r.plsp (constraints_of r)

-- the PCE doesn't know one or both of these ends
abbrev pub unknown_ends : Ends → NoPathVector
unknown_ends Source = record { pce_unavailable = false; unknown_destination = false; unknown_source = true }
unknown_ends Destination = record { pce_unavailable = false; unknown_destination = true; unknown_source = false }
unknown_ends Both = record { pce_unavailable = false; unknown_destination = true; unknown_source = true }

-- the PCE can't compute paths at present
abbrev pub unavailable : NoPathVector
unavailable = record { pce_unavailable = true; unknown_destination = false; unknown_source = false }

-- the answer to a request that is refused for this reason, if it gets one
abbrev pub vector_for : Why → Option NoPathVector
vector_for (UnknownNode ends) = Some (unknown_ends ends)
vector_for TooManyTickets = Some unavailable
vector_for why = None

-- there is no path, and why (RFC 5440 section 7.5)
abbrev pub no_path_for : ℕ → NoPathVector → Message
no_path_for request vector = messages.Reply (record { request = request; answer = answers.NoPath (Some vector) })
