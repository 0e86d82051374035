-- A run, as a connection that is part of it knows it.
use Rattle.std.specs.Prelude.{ℕ}
use Rattle.server_talk.specs.declared.traits.Watch as watch

pub record WatchNow : Type 1 where
  -- the moments that it may show
  pub may_show : ℕ → Type 0
  -- the run may be asked to end
  pub may_close : Type 0

-- the run, by the members of the trait `Watch`
abbrev pub watch_of : {V : Type 0} → watch.Ghosts V → V → WatchNow
watch_of by now = record { may_show = by.may_show now; may_close = by.may_close now }
