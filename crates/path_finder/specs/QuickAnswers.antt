-- What the quick search may answer.
use Rattle.std.specs.Prelude.{ℕ, List}
use Rattle.te_base.specs.declared.network.Link.{Link}
use Rattle.path_finder.specs.declared.query.Query.{Query}
use Rattle.path_finder.specs.declared.found.QuickAnswer.{QuickAnswer}
use Rattle.path_finder.specs.declared.found.QuickAnswer.TheVariants.{Least, Nothing, Unknown}
use Rattle.path_finder.specs.Walks.{IsLeastWalk, NoneWithin}

abbrev pub IsQuickAnswer : Query → List Link → ℕ → ℕ → ℕ → ℕ → QuickAnswer → Type 0
IsQuickAnswer q links source destination limit hops (Least f) = IsLeastWalk q links source destination limit hops f.links f.cost
IsQuickAnswer q links source destination limit hops Nothing = NoneWithin q links source destination limit hops
IsQuickAnswer q links source destination limit hops Unknown = Unit {0}
