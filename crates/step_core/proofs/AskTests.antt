-- A refused ask, by the test that fails.
use Rattle.std.proofs.Common.{◌≡◌, refl, sym, ap}
use Rattle.std.specs.Prelude.{ℕ, Some, None}
use Rattle.lsp_base.specs.declared.lsp.Constraints.{Constraints}
use Rattle.lsp_base.specs.declared.why.Why.{Why}
use Rattle.commit_core.specs.declared.ticket.Purpose.{Purpose}
use Rattle.step_core.specs.Asks.{ask_step, may_be_asked, must_have_ends, constraints_for}
use Rattle.step_core.specs.Outcomes.{Outcome}
use Rattle.step_core.specs.States.{State}
use Rattle.step_core.specs.declared.event.Reply.TheVariants.{Refused}

refused_ends : (s : State) (n : ℕ) (purpose : Purpose) (c : Constraints) (why : Why) → may_be_asked s n purpose ≡ None → constraints_for s.base.records n purpose ≡ Some c → must_have_ends s.te c ≡ Some why → ask_step s n purpose ≡ record { state = s; reply = Refused why }
refused_ends s n purpose c why tests constraints ends = rw (tests, constraints, ends) refl

-- a path whose ends are missing isn't asked for
pub refused_ends_reply : (s : State) (n : ℕ) (purpose : Purpose) (c : Constraints) (why : Why) → may_be_asked s n purpose ≡ None → constraints_for s.base.records n purpose ≡ Some c → must_have_ends s.te c ≡ Some why → Refused why ≡ (ask_step s n purpose).reply
refused_ends_reply s n purpose c why tests constraints ends = sym (ap (λ (o : Outcome). o.reply) (refused_ends s n purpose c why tests constraints ends))
