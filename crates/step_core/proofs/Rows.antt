-- What the PCE asks a peer for and what the peer refuses, computed.
use Rattle.std.proofs.Common.{◌≡◌, ℕ, Bool, true, false, List, [], ◌∷◌, refl}
use Rattle.std.specs.Prelude.{Option, Some, None}
use Rattle.pcep_messages.specs.declared.message.Message.{Message}
use Rattle.te_base.specs.Ted.{Ted}
use Rattle.lsp_base.specs.Lsps.{Lsps, no_lsps, changed}
use Rattle.lsp_base.specs.declared.effect.Record.{Record}
use Rattle.lsp_base.specs.declared.lsp.Constraints.{Constraints}
use Rattle.lsp_base.specs.declared.lsp.Lsp.{Lsp}
use Rattle.lsp_base.specs.declared.path.Path.{Path}
use Rattle.lsp_base.specs.declared.tunnel.Part.TheVariants.{Granted}
use Rattle.lsp_base.specs.declared.tunnel.Tunnel.TheVariants.{Unsignalled}
use Rattle.lsp_base.specs.declared.why.Why.TheVariants.{UnknownPeer, PeerDown, UnknownLsp, NotDelegated, Pending, NoUpdate, SrpInUse, Syncing}
use Rattle.initiate_rules.specs.Messages.{return_message}
use Rattle.delegate_rules.specs.Refusals.{refused_effect}
use Rattle.step_core.specs.declared.event.Event.TheVariants as event
use Rattle.step_core.specs.declared.event.Reply.TheVariants.{Done, Out, Refused}
use Rattle.step_core.specs.declared.peer.Peer.{Peer}
use Rattle.step_core.specs.States.{State}
use Rattle.step_core.specs.Steps.{step}

-- ---- peer 1 with LSP 5

abbrev peer : Bool → Bool → Bool → Peer
peer up syncing update = record { number = 1; up = up; session = 1; capabilities = record { update = update; create = false }; syncing = syncing; last_srp = 6; outgoing = [] }

abbrev ready : Peer
ready = peer true false true

abbrev lsp : Constraints → Bool → Option ℕ → Lsp
lsp c delegated removing = record { name = []; delegated = delegated; created = false; constraints = c; tunnel = Unsignalled 1 5; removing = removing }

abbrev lsp_5 : Lsp → Record
lsp_5 l = record { peer = 1; plsp = 5; lsp = l }

-- a grant of this SRP-ID, bound to the PLSP-ID
abbrev grant : ℕ → ℕ → Path
grant plsp srp = record { peer = 1; plsp = plsp; part = Granted srp; tunnel = Unsignalled 1 plsp; hold = 0; bandwidth = 10; links = []; fresh = true }

abbrev known : List Path → List Record → Lsps
known paths records = record { paths = paths; records = records }

abbrev at : Ted → Lsps → List Peer → State
at te base peers = record { te = te; base = base; names = []; peers = peers; tickets = []; changes = 4; last_session = 1; last_ticket = 0 }

-- ---- a return: each refusal in its order

no_peer : (te : Ted) → (step (at te no_lsps []) (event.Return 1 5)).reply ≡ Refused UnknownPeer
unfolding step
no_peer te = refl

peer_down : (te : Ted) → (step (at te no_lsps (peer false true false ∷ [])) (event.Return 1 5)).reply ≡ Refused PeerDown
unfolding step
peer_down te = refl

peer_syncing : (te : Ted) → (step (at te no_lsps (peer true true false ∷ [])) (event.Return 1 5)).reply ≡ Refused Syncing
unfolding step
peer_syncing te = refl

no_updates : (te : Ted) → (step (at te no_lsps (peer true false false ∷ [])) (event.Return 1 5)).reply ≡ Refused NoUpdate
unfolding step
no_updates te = refl

no_lsp : (te : Ted) → (step (at te no_lsps (ready ∷ [])) (event.Return 1 5)).reply ≡ Refused UnknownLsp
unfolding step
no_lsp te = refl

not_delegated : (te : Ted) (c : Constraints) → (step (at te (known (grant 5 7 ∷ []) (lsp_5 (lsp c false None) ∷ [])) (ready ∷ [])) (event.Return 1 5)).reply ≡ Refused NotDelegated
unfolding step
not_delegated te c = refl

granted : (te : Ted) (c : Constraints) → (step (at te (known (grant 5 7 ∷ []) (lsp_5 (lsp c true None) ∷ [])) (ready ∷ [])) (event.Return 1 5)).reply ≡ Refused Pending
unfolding step
granted te c = refl

removing : (te : Ted) (c : Constraints) → (step (at te (known [] (lsp_5 (lsp c true (Some 7)) ∷ [])) (ready ∷ [])) (event.Return 1 5)).reply ≡ Refused Pending
unfolding step
removing te c = refl

-- another LSP's grant has the peer's next number
number_in_use : (te : Ted) (c : Constraints) → (step (at te (known (grant 6 7 ∷ []) (lsp_5 (lsp c true None) ∷ [])) (ready ∷ [])) (event.Return 1 5)).reply ≡ Refused SrpInUse
unfolding step
number_in_use te c = refl

-- the delegation ends, the number is taken, and the message waits
returned : (te : Ted) (c : Constraints) → step (at te (known [] (lsp_5 (lsp c true None) ∷ [])) (ready ∷ [])) (event.Return 1 5)
    ≡ record { state = at te (known [] (lsp_5 (lsp c false None) ∷ [])) (record ready { last_srp = 7; outgoing = return_message 7 5 ∷ [] } ∷ []); reply = Done }
unfolding step changed
returned te c = refl

-- after the greatest number comes 1
wrapped : (te : Ted) (c : Constraints) → (step (at te (known [] (lsp_5 (lsp c true None) ∷ [])) (record ready { last_srp = 0xFFFFFFFE } ∷ [])) (event.Return 1 5)).state
    ≡ at te (known [] (lsp_5 (lsp c false None) ∷ [])) (record ready { last_srp = 1; outgoing = return_message 1 5 ∷ [] } ∷ [])
unfolding step changed
wrapped te c = refl

-- ---- what waits: handed out in order, or gone with the session

drained : (te : Ted) (a b : Message) → step (at te no_lsps (record ready { outgoing = a ∷ b ∷ [] } ∷ [])) (event.Drain 1) ≡ record { state = at te no_lsps (ready ∷ []); reply = Out (a ∷ b ∷ []) }
unfolding step
drained te a b = refl

gone : (te : Ted) (a : Message) → ((step (at te no_lsps (record ready { outgoing = a ∷ [] } ∷ [])) (event.Down 1)).state).peers ≡ peer false false true ∷ []
unfolding step
gone te a = refl

-- ---- a refusal drops the grant of the number, but not another peer's; a number that nothing has changes nothing

refused : (te : Ted) → step (at te (known (grant 0 7 ∷ record (grant 0 7) { peer = 2 } ∷ []) []) (ready ∷ [])) (event.Refused 1 7)
    ≡ record { state = record (at te (known (record (grant 0 7) { peer = 2 } ∷ []) []) (ready ∷ [])) { changes = 5 }; reply = Done }
unfolding step changed refused_effect
refused te = refl

not_a_number : (te : Ted) → step (at te (known (grant 0 7 ∷ []) []) (ready ∷ [])) (event.Refused 1 8) ≡ record { state = at te (known (grant 0 7 ∷ []) []) (ready ∷ []); reply = Done }
unfolding step changed refused_effect
not_a_number te = refl
