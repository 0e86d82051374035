-- A running server, as its operator sees it.
use Rattle.std.specs.Prelude.{ℕ, ℤ, List, Result}
use Rattle.te_base.specs.Values.{Values}
use Rattle.link_reload.specs.declared.entry.LinkReload.{LinkReload}
use Rattle.script_lines.specs.declared.views.ViewLine.{ViewLine}
use Rattle.line_names.specs.declared.plain.Named.{Named}
use Rattle.server_talk.specs.declared.plan.PlanFault.{PlanFault}
use Rattle.server_talk.specs.Goings.{Ways}

pub record Server (S : Type 0) : Type 1 where
  -- how its store goes on
  pub ways : Ways S
  -- what may be left of each link at each priority
  pub is_left : S → List (List ℤ) → Type 0
  -- what a reading of its link text may give
  pub reads : Result (List LinkReload) PlanFault → Type 0
  -- the values that its links may have, and what may be left of each at each priority, both at the same moment
  pub has_links : S → List Values → List (List ℤ) → Type 0
  -- what the names in a line may stand for
  pub names : S → List ℕ → Named → Type 0
  -- what a line that asks to see something may be shown, from a state of the store on, and the state that this leaves
  pub shows : S → ViewLine → List ℕ → S → Type 0

-- a server, by the members of the traits of its store and of its link text in this state
abbrev pub server_of : {S N : Type 0} → Ways S → (S → List (List ℤ) → Type 0) → (S → List Values → List (List ℤ) → Type 0) → (S → List ℕ → Named → Type 0) → (S → ViewLine → List ℕ → S → Type 0)
    → (N → Result (List LinkReload) PlanFault → Type 0) → N → Server S
server_of ways is_left has_links names shows reads now =
    record { ways = ways; is_left = is_left; reads = reads now; has_links = has_links; names = names; shows = shows }
