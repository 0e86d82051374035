-- Whether a session's peer is joined: from an accepted Up until its Down is submitted.
use Rattle.std.specs.Prelude.{Bool, true, false, List, [], ◌∷◌}
use Rattle.step_core.specs.declared.event.Event.{Event}
use Rattle.step_core.specs.declared.event.Event.TheVariants.{Up, Down}
use Rattle.step_core.specs.declared.event.Reply.{Reply}
use Rattle.step_core.specs.declared.event.Reply.TheVariants.{Done}
use Rattle.engine_core.specs.declared.store.Call.{Call}

-- an Up is accepted if its reply is Done
abbrev pub joined_by_up : Bool → Reply → Bool
joined_by_up joined Done = true
joined_by_up joined reply = joined

abbrev pub joined_by : Bool → Event → Reply → Bool
joined_by joined (Up peer capabilities) reply = joined_by_up joined reply
joined_by joined (Down peer) reply = false
joined_by joined event reply = joined

abbrev pub joined_after : Bool → List Call → Bool
joined_after joined [] = joined
joined_after joined (call ∷ calls) = joined_after (joined_by joined call.event call.reply) calls
