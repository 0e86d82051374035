use Rattle.std.proofs.Common.{sym, ap, ◌∙◌}
use Rattle.server_rules.specs.declared.known.Known.{Known}
use Rattle.server_rules.specs.Peers.{spare_since}
use Rattle.server_rules.proofs.expiry.Expiry.longest_down.Goals as goal

pub returns : goal.returns
returns c = λ past knows.
    let first = c.in_ok-first_down.field-0 in
    let holders = c.args.holders.now in (
      first.since_ms,
      ap (λ (known : Known). spare_since holders first.peer known) (sym (knows first.peer)) ∙ c.in_ok-first_down.ensures.0,
      λ other other_ms since. c.in_ok-first_down.ensures.1 other other_ms (ap (λ (known : Known). spare_since holders other known) (knows other) ∙ since),
    )
