-- A client that has been idle for a shorter time may not go sooner.
use Rattle.std.proofs.Common.{sym, ◌∙◌, ◌≡◌, ℕ, ◌≤◌, List, nat_lt, slice_index_or, false, arith}
use Rattle.std.specs.Prelude.{Some, slice_get}
use Rattle.std.proofs.lemmas.Option.{slice_get_within, get_or_from_slice_get}
use Rattle.std.proofs.lemmas.Bool.Decides.{nat_tests}
use Rattle.server_rules.specs.Idles.{may_go, IsLongestIdle}
use Rattle.server_rules.proofs.idle.who_goes.Goals as goal

no_less : (m n : ℕ) → nat_lt m n ≡ false → n ≤ m
no_less m n less = grind (arith, nat_tests)

no_sooner : (first other came now : ℕ) → first ≤ other → may_go first came now ≡ false → may_go other came now ≡ false
no_sooner first other came now later stays = grind (arith, nat_tests)

nobody : (since : List ℕ) (first came now : ℕ) → IsLongestIdle since first → may_go (slice_index_or since first 0) came now ≡ false
    → (at ms : ℕ) → slice_get since at ≡ Some ms → may_go ms came now ≡ false
nobody since first came now longest stays at ms there =
    let is_ms : slice_index_or since at 0 ≡ ms = get_or_from_slice_get since at ms 0 there in
    let later = no_less ms (slice_index_or since first 0) (rw (← is_ms) (longest.1 at 0 (slice_get_within since at ms there))) in
    no_sooner (slice_index_or since first 0) ms came now later stays

pub returns-else-may_go : goal.returns-else-may_go
returns-else-may_go c =
    nobody c.args.since_ms.now c.longest_idle-first.result c.args.came_ms c.args.now_ms c.longest_idle-first.ensures (sym c.may_go.ensures ∙ c.if-may_go.false)
