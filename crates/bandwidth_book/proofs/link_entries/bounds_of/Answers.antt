use Rattle.std.proofs.Common.{◌-◌, length, arith, inl, inr}
use Rattle.std.proofs.Math.Nat.{eq-or-lt_of_le}
use Rattle.bandwidth_book.proofs.Rising.{last_least, place_least, place_most, place_within}
use Rattle.bandwidth_book.proofs.link_entries.bounds_of.Goals as goal

pub overflow_sub-missing-3 : goal.overflow_sub-missing-3
overflow_sub-missing-3 c =
    let some = c.if-count-eq0.false in
    last_least c.index-entries-count.result c.args.entries.now (length c.args.entries.now - 1) (omega (arith, some)) c.requires

pub returns-clause-low : goal.returns-clause-low
returns-clause-low c =
    let some = c.if-count-eq0.false in
    let one = c.saturating_sub.ensures in
    let is = c.min.ensures in
    elim (eq-or-lt_of_le (place_within c.args.link c.args.entries.now)) [
      | inl end ↦ omega (arith, is, end)
      | inr inside ↦ (
          let least = place_least c.args.link c.index-entries-count.result c.args.entries.now (length c.args.entries.now - 1) (omega (arith, some)) c.requires (omega (arith, some, inside)) in
          omega (arith, is, one, least))
    ]

pub returns-clause-high : goal.returns-clause-high
returns-clause-high c =
    let most = place_most c.args.link c.args.entries.now c.requires in
    let within = place_within c.args.link c.args.entries.now in
    let is = c.min-2.ensures in
    omega (arith, most, within, is)
