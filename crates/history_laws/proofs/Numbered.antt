-- Each reported path has a PLSP-ID.
use Rattle.std.proofs.Common.{◌≡◌, ◌≢◌, ◌==◌, ◌||◌, ℕ, Bool, true, false, List, [], refl, ap, ◌∙◌}
use Rattle.std.specs.Prelude.{Option, All, unwrap_or}
use Rattle.std.proofs.lemmas.Bool.{both_ways, eq-eqb, or_parts}
use Rattle.std.proofs.lemmas.List.Elements.{All-nil}
use Rattle.pcep_messages.specs.declared.message.StateReport.{StateReport}
use Rattle.te_base.specs.Ted.{Ted}
use Rattle.lsp_base.specs.declared.path.Path.{Path}
use Rattle.lsp_base.specs.Same.{is_reported}
use Rattle.delegate_rules.specs.Effects.{is_reserved}
use Rattle.delegate_rules.specs.Reports.{reported_path}
use Rattle.commit_core.specs.Offers.{offered_path}
use Rattle.commit_core.specs.declared.ticket.Ticket.{Ticket}
use Rattle.step_core.specs.Grants.{path_of}
use Rattle.step_core.specs.States.{State}
use Rattle.history_core.specs.Histories.{Content, StartsFromText, Replays}
use Rattle.history_laws.specs.WellFormed.{IsNumbered}
use Rattle.history_laws.proofs.Led.{led_from_text}
use Rattle.history_laws.proofs.Paths.{EachPath, IsKept, step_all}

not_zero : (plsp : ℕ) → is_reserved plsp ≡ false → plsp ≢ 0
not_zero plsp free = λ zero. both_ways (plsp == 0) (or_parts (plsp == 0) (plsp == 0xFFFFF) free).0 (eq-eqb plsp 0 zero)

reported_numbered : (te : Ted) (n : ℕ) (r : StateReport) → is_reserved r.plsp ≡ false → IsNumbered (reported_path te n r)
unfolding reported_path
reported_numbered te n r free = λ reported. not_zero r.plsp free

granted_numbered : (s : State) (t : Ticket) (links : List ℕ) → IsNumbered (path_of s t links)
unfolding offered_path
granted_numbered s t links = λ reported. absurd (cc (reported))

kept : (s : State) → IsKept IsNumbered s
kept s = record {
  stale = λ x here. here;
  moved = λ n r x free here reported. not_zero r.plsp free;
  bound = λ r x free here reported. not_zero r.plsp free;
  reported = λ n r free. reported_numbered s.te n r free;
  granted = λ t offer is. granted_numbered s t (unwrap_or offer []);
}

pub numbered : (d : Content) → Replays d → StartsFromText d → All IsNumbered d.state.base.paths
numbered d whole starts = led_from_text (EachPath IsNumbered) (λ te. All-nil IsNumbered) (λ s event all. step_all IsNumbered s event (kept s) all) d whole starts
