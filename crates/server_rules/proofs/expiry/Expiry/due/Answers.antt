use Rattle.std.proofs.Common.{◌<◌, length, nat_eq, refl, sym, ap, ◌∙◌, arith}
use Rattle.std.specs.Prelude.{None}
use Rattle.std.specs.Map.{lookup}
use Rattle.std.proofs.lemmas.Option.{slice_get_within}
use Rattle.server_rules.specs.Peers.{owing}
use Rattle.server_rules.proofs.Dues.{none_first, found_first, of_no_peer}
use Rattle.server_rules.proofs.expiry.Expiry.due.Goals as goal

pub returns-clause-due : goal.returns-clause-due
returns-clause-due c = λ past knows peer.
    let es = c.args.self.now.peers.entries in
    let none = of_no_peer (owing c.args.now_ms c.args.keep_ms) None refl es
    (λ k e is. let within : k < length c.args.self.now.peers.entries = slice_get_within es k e is in c.loop-at.invariant k e (omega arith) is)
    peer (lookup (nat_eq peer) es) refl in
    ap (owing c.args.now_ms c.args.keep_ms) (sym (knows peer)) ∙ none

pub returns-clause-first : goal.returns-clause-first
returns-clause-first c =
    let es = c.args.self.now.peers.entries in
    sym (none_first c.args.now_ms c.args.keep_ms es
    (λ k e is. let within : k < length c.args.self.now.peers.entries = slice_get_within es k e is in c.loop-at.invariant k e (omega arith) is))

pub returns-in-Some-due_of-clause-first : goal.returns-in-Some-due_of-clause-first
returns-in-Some-due_of-clause-first c =
    sym (found_first c.args.now_ms c.args.keep_ms c.args.self.now.peers.entries c.loop-at.at (c.in-Some.peer.now, c.in-Some.known.now) c.in-Some-due_of.what c.loop-at.invariant
    (sym c.in-Some.ensures.entry) (sym c.in-Some-due_of.ensures))
