use Rattle.std.proofs.Common.{◌<◌, false, length, nat_eq, refl, sym, ap, ◌∙◌, arith}
use Rattle.std.specs.Map.{lookup}
use Rattle.std.proofs.lemmas.Option.{slice_get_within}
use Rattle.server_rules.specs.declared.known.Known.{Known}
use Rattle.server_rules.proofs.Dues.{of_no_peer}
use Rattle.server_rules.proofs.expiry.Expiry.owes_a_down.Goals as goal

pub returns : goal.returns
returns c = λ past knows peer.
    let es = c.args.self.now.peers.entries in
    let none = of_no_peer (λ (known : Known). known.owes_a_down) false refl es
    (λ k e is. let within : k < length c.args.self.now.peers.entries = slice_get_within es k e is in c.loop-at.invariant k e (omega arith) is)
    peer (lookup (nat_eq peer) es) refl in
    ap (λ (known : Known). known.owes_a_down) (sym (knows peer)) ∙ none
