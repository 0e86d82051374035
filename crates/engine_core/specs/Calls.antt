-- An event with its reply.
use Rattle.std.specs.Prelude.{List, [], ◌∷◌}
use Rattle.step_core.specs.declared.event.Event.{Event}
use Rattle.step_core.specs.declared.event.Reply.{Reply}
use Rattle.step_core.specs.declared.event.Reply.TheVariants.{Done}
use Rattle.engine_core.specs.Deeds.{Deed, Called}
use Rattle.engine_core.specs.declared.store.Call.{Call}

-- an event was submitted and got this reply
abbrev pub called : Event → Reply → Deed
called event reply = Called (record { event = event; reply = reply })

-- the reply to the last of these calls
abbrev pub newest_reply : List Call → Reply
newest_reply [] = Done
newest_reply (call ∷ []) = call.reply
newest_reply (call ∷ next ∷ calls) = newest_reply (next ∷ calls)
