-- Peers that are all down.
use Rattle.std.proofs.Common.{◌≡◌, ℕ, Bool, true, false, cond, ◌&&◌, List, [], ◌∷◌, true≢false, refl, sym}
use Rattle.std.specs.Prelude.{Some, find, not, unwrap_or}
use Rattle.std.specs.List.{list_all}
use Rattle.step_core.specs.States.{is_peer, peer_at, unknown_peer}
use Rattle.step_core.specs.declared.peer.Peer.{Peer}
use Rattle.pce_server.specs.RunEnds.{is_down}

first_down : (up rest : Bool) → (not up && rest) ≡ true → up ≡ false
first_down false rest is = refl
first_down true rest is = absurd (true≢false (sym is))

rest_down : (up rest : Bool) → (not up && rest) ≡ true → rest ≡ true
rest_down false rest is = is
rest_down true rest is = absurd (true≢false (sym is))

-- no peer is up, known or not
pub none_is_up : (peers : List Peer) → list_all is_down peers ≡ true → (n : ℕ) → (peer_at peers n).up ≡ false
none_is_up [] all n = refl
none_is_up (p ∷ ps) all n = by (is_peer n p) (none_is_up ps (rest_down p.up (list_all is_down ps) all) n)
  where
    by : (b : Bool) → (peer_at ps n).up ≡ false → (unwrap_or (cond b (Some p) (find (is_peer n) ps)) (unknown_peer n)).up ≡ false
    by true rest = first_down p.up (list_all is_down ps) all
    by false rest = rest
