-- What a link adds to the cost of a path.
use Rattle.std.specs.Prelude.{ℕ, Option, Some, None, if◌then◌else◌}
use Rattle.lsp_words.specs.declared.object.MetricType.{MetricType}
use Rattle.lsp_words.specs.declared.object.MetricType.TheVariants.{Igp, Te, Hops}
use Rattle.te_base.specs.declared.network.Link.{Link}
use Rattle.te_snapshot.specs.declared.outgoing.Outgoing.{Outgoing}
use Rattle.te_snapshot.specs.Leaving.{arc_of}
use Rattle.te_snapshot.specs.Admissible.{is_open}
use Rattle.path_finder.specs.declared.query.Query.{Query}

abbrev pub arc_metric : MetricType → Outgoing → ℕ
arc_metric Igp a = a.igp
arc_metric Te a = a.te
arc_metric Hops a = 1

-- what the link adds to the cost, if a path may take it
unfoldable pub fee : Query → Outgoing → Option ℕ
fee q a =
    if is_open q.unreserved.now q.constraints.now q.own.now a.number a.colour
    then Some (arc_metric q.constraints.now.minimise a) else None

-- the same for a link by its number
abbrev pub toll : Query → ℕ → Link → Option ℕ
toll q n l = fee q (arc_of n l)
