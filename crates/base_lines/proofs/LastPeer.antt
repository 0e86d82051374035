-- A message is added to what waits for the last peer.
use Rattle.std.proofs.Common.{◌≡◌, ◌==◌, Bool, true, ℕ, zero, suc, ◌+◌, List, [], ◌∷◌, length, set, get_or, refl, ap, arith}
use Rattle.pcep_messages.specs.declared.message.Message.{Message}
use Rattle.step_core.specs.States.{with_message}
use Rattle.step_core.specs.declared.peer.Peer.{Peer}
use Rattle.base_lines.specs.Items.{Reading, is_at_peer, rank, taken, with_waiting}
use Rattle.base_lines.specs.declared.item.Item.TheVariants as item
use Rattle.base_lines.specs.declared.stage.Stage.{Stage}
use Rattle.base_lines.specs.declared.stage.Stage.TheVariants.{Peers}

pub added : (ps : List Peer) (i : ℕ) (q : Peer) (message : Message) → i + 1 ≡ length ps → q ≡ get_or ps i q → set ps i (with_message q message) ≡ with_waiting ps message
added [] i q message last there = absurd (omega (arith, last))
added (p ∷ []) zero q message last there = ap (λ (x : Peer). with_message x message ∷ []) there
added (p ∷ []) (suc i) q message last there = absurd (omega (arith, last))
added (p ∷ s ∷ ps) zero q message last there = absurd (omega (arith, last))
added (p ∷ s ∷ ps) (suc i) q message last there = ap (λ (peers : List Peer). p ∷ peers) (added (s ∷ ps) i q message (omega (arith, last)) there)

pub waits : (r : Reading) (i : ℕ) (q : Peer) (message : Message) → r.stage ≡ Peers → i + 1 ≡ length r.peers → q ≡ get_or r.peers i q → record r { peers = set r.peers i (with_message q message) } ≡ taken r (item.Waits message)
unfolding taken
waits r i q message at last there =
    let is : is_at_peer r ≡ true = ap (λ (stage : Stage). rank stage == 2) at in
    rw is (ap (λ (peers : List Peer). record r { peers = peers }) (added r.peers i q message last there))
