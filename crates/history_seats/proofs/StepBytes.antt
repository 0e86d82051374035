-- The bytes of the kept steps: of no steps, after one more, and after a roll.
use Rattle.std.proofs.Common.{◌≡◌, ℕ, ◌+◌, ◌-◌, ◌^◌, min, [], refl, arith}
use Rattle.std.proofs.lemmas.List.Sums.{sum_by_push}
use Rattle.te_base.specs.Ted.{Ted}
use Rattle.step_core.specs.declared.event.Event.{Event}
use Rattle.step_core.specs.declared.event.Reply.{Reply}
use Rattle.history_core.specs.declared.step.Step.{Step}
use Rattle.history_core.specs.Histories.{Content, kept_step, stepped, rolled_up}
use Rattle.event_bytes.specs.Bytes.{bytes_of}
use Rattle.history_seats.specs.Past.{database_at}
use Rattle.history_seats.specs.Bytes.{kept_bytes}

pub bytes_first : (text : Ted) → kept_bytes (database_at text []) ≡ 0
unfolding kept_bytes database_at
bytes_first text = refl

pub bytes_rolled : (d : Content) → kept_bytes (rolled_up d) ≡ 0
unfolding kept_bytes
bytes_rolled d = refl

pub bytes_stepped : (d : Content) (e : Event) (reply : Reply) → kept_bytes (stepped d e reply) ≡ min (kept_bytes d + bytes_of e) (2 ^ 64 - 1)
unfolding kept_bytes
bytes_stepped d e reply = omega (arith, sum_by_push (λ (s : Step). bytes_of s.event) d.history (kept_step e reply))
