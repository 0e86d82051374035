-- The links of each path exist, and no path has a link twice.
use Rattle.std.proofs.Common.{◌≡◌, ◌≢◌, ◌<◌, ℕ, Bool, true, false, List, [], length, All, AllPairs, refl, subst, arith}
use Rattle.std.specs.Prelude.{unwrap_or, if◌then◌else◌}
use Rattle.std.proofs.lemmas.List.Elements.{All-nil, All-weaker}
use Rattle.pcep_messages.specs.declared.message.StateReport.{StateReport}
use Rattle.te_base.specs.Ted.{Ted}
use Rattle.te_base.specs.Walk.{walk}
use Rattle.te_base.proofs.Values.{same-length}
use Rattle.te_base.proofs.WalkLaws.{AreSome, walk_some}
use Rattle.lsp_base.specs.declared.path.Path.{Path}
use Rattle.delegate_rules.specs.Reports.{hops_of, identifiers_of, is_down, reported_path}
use Rattle.step_core.specs.States.{State}
use Rattle.step_core.specs.Steps.{step}
use Rattle.step_core.specs.declared.event.Event.{Event}
use Rattle.step_core.proofs.StepLaws.{network_stays}
use Rattle.history_core.specs.Histories.{Content, StartsFromText, Replays}
use Rattle.history_laws.specs.WellFormed.{TakesLinksOnce}
use Rattle.history_laws.proofs.Led.{led_from_text}
use Rattle.history_laws.proofs.Paths.{EachPath, IsKept, step_all}
use Rattle.history_laws.proofs.Routes.{granted_some}

-- the path's links are below this number, and it has none twice
abbrev Takes : ℕ → Path → Type 0
Takes n x = AreSome n x.links

no_links : (n : ℕ) → AreSome n []
no_links n = record { below = All-nil (λ l. l < n); once = λ i j d lt past. absurd (omega (arith, past)) }

walked : (down : Bool) (te : Ted) (r : StateReport) → AreSome (length te.links) (if down then [] else walk te (identifiers_of r).sender (hops_of r) (identifiers_of r).endpoint)
walked true te r = no_links (length te.links)
walked false te r = walk_some te (identifiers_of r).sender (hops_of r) (identifiers_of r).endpoint

reported_some : (te : Ted) (n : ℕ) (r : StateReport) → Takes (length te.links) (reported_path te n r)
unfolding reported_path
reported_some te n r = walked (is_down r.operational) te r

kept : (s : State) → IsKept (Takes (length s.te.links)) s
kept s = record {
  stale = λ x here. here;
  moved = λ n r x free here. here;
  bound = λ r x free here. here;
  reported = λ n r free. reported_some s.te n r;
  granted = λ t offer is. granted_some s t offer is;
}

abbrev EachTakes : State → Type 0
EachTakes s = EachPath (Takes (length s.te.links)) s

step_takes : (s : State) (event : Event) → EachTakes s → EachTakes (step s event).state
step_takes s event all =
    let after = step_all (Takes (length s.te.links)) s event (kept s) all in
    subst (λ (n : ℕ). EachPath (Takes n) (step s event).state) (same-length s.te (step s event).state.te (network_stays s event)) after

pub links_once : (d : Content) → Replays d → StartsFromText d → All (TakesLinksOnce d.state.te.links) d.state.base.paths
links_once d whole starts =
    let all : EachTakes d.state = led_from_text EachTakes (λ te. All-nil (Takes (length te.links))) step_takes d whole starts in
    All-weaker (Takes (length d.state.te.links)) (TakesLinksOnce d.state.te.links) (λ x some. record { there = some.below; once = some.once }) d.state.base.paths all
