-- What an operator asks of a path is read again from its words, and is all that binds the path.
use Rattle.std.proofs.Common.{◌≡◌, ℕ, ◌^◌, ◌<◌, ◌≤◌, Bool, true, false, List, Option, Some, None, is_some, nat_lt, refl, ap, ◌∙◌, rules, tests, arith}
use Rattle.std.specs.Fmt.{decimal}
use Rattle.std.specs.Option.{unwrap_or}
use Rattle.std.proofs.lemmas.Bool.{and_parts}
use Rattle.asks.specs.Words.{bandwidth_in, priority_in}
use Rattle.asks.specs.declared.ask.PathWanted.{PathWanted}
use Rattle.pcep_word.specs.Priority.{InForce}
use Rattle.pcep_word.specs.Word.{IsBandwidth}
use Rattle.pcep_messages.specs.Normal.{ArePriorities}
use Rattle.pcep_word.proofs.Reading.{bandwidth_written}
use Rattle.lsp_base.specs.declared.lsp.Constraints.{Constraints}
use Rattle.item_messages.proofs.WishesAgain.{in_force_again}
use Rattle.line_words.proofs.Again.{number_again, number_word as number_is_word}
use Rattle.step_lines.specs.Events.{limit_words, wanted_words}
use Rattle.line_words.specs.Written.{number_word, address_word}
use Rattle.step_lines.specs.EventReading.{first_bandwidth, first_priority, first_priorities, wanted_in}
use Rattle.step_lines.specs.Normal.{IsWanted}
use Rattle.step_lines.specs.Wanted.{bound_by, wanted_of, has_ends, has_no_more, may_be_wanted}
use Rattle.line_words.proofs.FirstWords.{first_again, address_first}
use Rattle.step_lines.proofs.LimitsAgain.{limits_again}
use Rattle.line_words.specs.Joined.{◌+>◌}

-- ---- read again

bandwidth_again : (bandwidth : ℕ) → IsBandwidth bandwidth → bandwidth_in (decimal bandwidth) ≡ Some bandwidth
bandwidth_again bandwidth is =
    let small : bandwidth < 2 ^ 48 = is.reads.small in
    let fits : nat_lt bandwidth (2 ^ 48) ≡ true = search (rules, tests) in
    rw (number_again 64 bandwidth (omega (arith, small)) (omega (arith, small)), fits, bandwidth_written bandwidth is) refl

priority_again : (priority : ℕ) → priority ≤ 7 → priority_in (decimal priority) ≡ Some priority
priority_again priority small = number_again 3 priority (omega (arith, small)) (omega (arith, small))

pub bandwidth_first : (bandwidth : ℕ) (rest : List ℕ) → IsBandwidth bandwidth → first_bandwidth (number_word bandwidth +> rest) ≡ Some (bandwidth, rest)
unfolding first_bandwidth
bandwidth_first bandwidth rest is =
    first_again bandwidth_in (decimal bandwidth) rest bandwidth (number_is_word bandwidth (omega (arith, is.reads.small))) (bandwidth_again bandwidth is)

pub priority_first : (priority : ℕ) (rest : List ℕ) → priority ≤ 7 → first_priority (number_word priority +> rest) ≡ Some (priority, rest)
unfolding first_priority
priority_first priority rest small = first_again priority_in (decimal priority) rest priority (number_is_word priority (omega (arith, small))) (priority_again priority small)

pub priorities_first : (p : InForce) (rest : List ℕ) → ArePriorities p → first_priorities (number_word p.setup +> number_word p.hold +> rest) ≡ Some (p, rest)
unfolding first_priorities
priorities_first p rest are =
    let hold : p.hold ≤ 7 = omega (arith, are.setup, are.hold) in
    rw (priority_first p.setup (number_word p.hold +> rest) are.setup, priority_first p.hold rest hold, in_force_again p are.hold) refl

pub wanted_again : (w : PathWanted) → IsWanted w → wanted_in (wanted_words w) ≡ Some w
unfolding wanted_in
wanted_again w is =
    let p = w.priorities in
    let limits = limit_words w.limits in
    rw (
      address_first w.from (address_word w.to +> number_word w.bandwidth +> number_word p.setup +> number_word p.hold +> limits) is.from,
      address_first w.to (number_word w.bandwidth +> number_word p.setup +> number_word p.hold +> limits) is.to,
      bandwidth_first w.bandwidth (number_word p.setup +> number_word p.hold +> limits) is.bandwidth,
      priorities_first p limits is.priorities,
      limits_again w.limits is.limits,
    )
    refl

-- ---- all that binds the path

pub something : (o : Option ℕ) → is_some o ≡ true → Some (unwrap_or o 0) ≡ o
something None h = cc
something (Some x) h = refl

abbrev rebuilt : Constraints → Option ℕ → Option ℕ → Option ℕ → Option ℕ → Bool → Constraints
rebuilt c source destination igp te protected =
    record c { source = source; destination = destination; other_bounds = record { igp = igp; te = te }; local_protection = protected }

nothing_more : (c : Constraints) (igp te : Option ℕ) (protected : Bool) → has_no_more igp te protected ≡ true
    → rebuilt c c.source c.destination None None false ≡ rebuilt c c.source c.destination igp te protected
nothing_more c (Some b) te protected h = cc
nothing_more c None (Some b) protected h = cc
nothing_more c None None true h = cc
nothing_more c None None false h = refl

pub bound_again : (c : Constraints) → may_be_wanted c ≡ true → bound_by (wanted_of c) ≡ c
unfolding may_be_wanted
bound_again c h =
    let two = and_parts (has_ends c) (has_no_more (c.other_bounds).igp (c.other_bounds).te c.local_protection) h in
    let ends = and_parts (is_some c.source) (is_some c.destination) two.0 in
    ap (λ (x : Option ℕ). rebuilt c x (Some (unwrap_or c.destination 0)) None None false) (something c.source ends.0)
    ∙ ap (λ (x : Option ℕ). rebuilt c c.source x None None false) (something c.destination ends.1)
    ∙ nothing_more c (c.other_bounds).igp (c.other_bounds).te c.local_protection two.1
