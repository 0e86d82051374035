-- What an operator asks of a path that is to be initiated: its ends, its bandwidth, its priorities and its limits.
use Rattle.std.specs.Prelude.{ℕ, ◌&&◌, not, Bool, false, Option, Some, None, is_none, is_some}
use Rattle.std.specs.Option.{unwrap_or}
use Rattle.asks.specs.declared.ask.PathLimits.{PathLimits}
use Rattle.asks.specs.declared.ask.PathWanted.{PathWanted}
use Rattle.lsp_base.specs.declared.lsp.Constraints.{Constraints}

-- nothing else binds the path
abbrev pub bound_by : PathWanted → Constraints
bound_by w = record {
  source = Some w.from;
  destination = Some w.to;
  bandwidth = w.bandwidth;
  priorities = w.priorities;
  colours = (w.limits).colours;
  minimise = (w.limits).minimise;
  bound = (w.limits).max_cost;
  hop_bound = (w.limits).max_hops;
  other_bounds = record { igp = None; te = None };
  local_protection = false;
}

abbrev pub limits_of : Constraints → PathLimits
limits_of c = record { minimise = c.minimise; max_cost = c.bound; max_hops = c.hop_bound; colours = c.colours }

abbrev pub wanted_of : Constraints → PathWanted
wanted_of c = record { from = unwrap_or c.source 0; to = unwrap_or c.destination 0; bandwidth = c.bandwidth; priorities = c.priorities; limits = limits_of c }

-- ---- constraints that an operator asks for

abbrev pub has_ends : Constraints → Bool
has_ends c = is_some c.source && is_some c.destination

abbrev pub has_no_more : Option ℕ → Option ℕ → Bool → Bool
has_no_more igp te protected = is_none igp && is_none te && not protected

unfoldable pub may_be_wanted : Constraints → Bool
may_be_wanted c = has_ends c && has_no_more (c.other_bounds).igp (c.other_bounds).te c.local_protection
