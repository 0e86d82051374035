-- The turns of a session, one by one.
use Rattle.std.proofs.Common.{◌≡◌, inr, ℕ, suc, ◌+◌, ◌-◌, ◌<◌, List, [], Some, None, refl, sym, ◌∙◌, ap, subst, arith}
use Rattle.std.proofs.lemmas.Grind.{common_steps}
use Rattle.std.proofs.lemmas.List.{append-nil}
use Rattle.history_core.specs.declared.fault.Fault.{Fault}
use Rattle.history_core.specs.declared.fault.Fault.TheVariants.{OutOfMemory}
use Rattle.pcep_session.specs.Turns.{next}
use Rattle.pcep_session.specs.declared.table.Input.{Input}
use Rattle.engine_core.specs.Deeds.{Deed}
use Rattle.engine_core.specs.Engine.{client_with, on_input, turned, turns}
use Rattle.engine_core.specs.Plans.{Plan, Reaches, LeadsTo}
use Rattle.engine_core.specs.Stores.{Carries, BreaksOff}
use Rattle.engine_core.specs.declared.client.Client.{Client}
use Rattle.engine_core.proofs.Leading.{here, leads_on}
use Rattle.engine_core.proofs.Carrying.{out_of_memory}

-- the turn that comes next, and those after it
abbrev this_turn : {W : Type 0} → ℕ → ℕ → Client → (Client → Plan W) → Plan W
this_turn left peer c go_on = turned peer (next c.session).input (client_with (next c.session).after c) (λ after. turns left peer after go_on) go_on

one_left : (most i : ℕ) → i < most → most - i ≡ suc (most - (i + 1))
one_left most i h = grind (arith, common_steps)

past : {W : Type 0} (p q : Plan W) (c : Client) (deeds : List Deed) → LeadsTo p deeds (Reaches c q) → LeadsTo p deeds q
past p q c deeds h = subst (λ (made : List Deed). LeadsTo p made q) (append-nil deeds) (leads_on p (Reaches c q) q deeds [] h (inr (here q)))

-- while turns are left
at_turn : {S W : Type 0} (moves : S → List Deed → S → Type 0) (s t : S) (first c : Client) (plan : Plan W) (most i peer : ℕ) (go_on : Client → Plan W)
    → i < most → Carries moves s t first c plan (turns (most - i) peer c go_on) → Carries moves s t first c plan (Reaches c (this_turn (most - (i + 1)) peer c go_on))
at_turn {W = W} moves s t first c plan most i peer go_on small h =
    subst (λ (n : ℕ). Carries moves s t first c plan (turns n peer c go_on)) (one_left most i small) h

-- the turn was taken
taken : {S W : Type 0} (moves : S → List Deed → S → Type 0) (s t : S) (first c mid : Client) (plan p q : Plan W) → mid ≡ client_with (next c.session).after c → p ≡ q
    → Carries moves s t first c plan (Reaches c p) → Carries moves s t first mid plan q
taken {W = W} moves s t first c mid plan p q turned is h = record {
  deeds = h.deeds;
  made = h.made;
  leads = subst (λ (x : Plan W). LeadsTo plan h.deeds x) is (past plan p c h.deeds h.leads);
  joined = ap (λ (w : Client). w.joined) turned ∙ h.joined;
}

-- the session gave something
pub turned_to : {S W : Type 0} (moves : S → List Deed → S → Type 0) (s t : S) (first c mid : Client) (plan : Plan W) (most i peer : ℕ) (given : Input) (go_on : Client → Plan W)
    → i < most → Some given ≡ (next c.session).input → mid ≡ client_with (next c.session).after c
    → Carries moves s t first c plan (turns (most - i) peer c go_on) → Carries moves s t first mid plan (on_input peer given mid (λ after. turns (most - (i + 1)) peer after go_on))
turned_to {W = W} moves s t first c mid plan most i peer given go_on small is at h =
    let e : this_turn (most - (i + 1)) peer c go_on ≡ on_input peer given mid (λ after. turns (most - (i + 1)) peer after go_on) = rw (sym is, at) refl in
    taken moves s t first c mid plan (this_turn (most - (i + 1)) peer c go_on) (on_input peer given mid (λ after. turns (most - (i + 1)) peer after go_on)) at e
    (at_turn moves s t first c plan most i peer go_on small h)

-- nothing is left to handle
pub turned_out : {S W : Type 0} (moves : S → List Deed → S → Type 0) (s t : S) (first c mid : Client) (plan : Plan W) (most i peer : ℕ) (go_on : Client → Plan W)
    → i < most → None ≡ (next c.session).input → mid ≡ client_with (next c.session).after c
    → Carries moves s t first c plan (turns (most - i) peer c go_on) → Carries moves s t first mid plan (go_on mid)
turned_out {W = W} moves s t first c mid plan most i peer go_on small is at h =
    let e : this_turn (most - (i + 1)) peer c go_on ≡ go_on mid = rw (sym is, at) refl in
    taken moves s t first c mid plan (this_turn (most - (i + 1)) peer c go_on) (go_on mid) at e (at_turn moves s t first c plan most i peer go_on small h)

-- memory ran out at a turn
pub not_turned : {S W : Type 0} (moves : S → List Deed → S → Type 0) (is_full : S → Type 0) (s t : S) (first c after : Client) (plan : Plan W) (most i peer : ℕ) (go_on : Client → Plan W) (fault : Fault)
    → i < most → fault ≡ OutOfMemory → after ≡ c → Carries moves s t first c plan (turns (most - i) peer c go_on) → BreaksOff moves is_full s t first after plan fault
not_turned moves is_full s t first c after plan most i peer go_on fault small only same h =
    subst (λ (w : Client). BreaksOff moves is_full s t first w plan fault) (sym same)
    (out_of_memory moves is_full s t first c plan (this_turn (most - (i + 1)) peer c go_on) fault only (at_turn moves s t first c plan most i peer go_on small h))
