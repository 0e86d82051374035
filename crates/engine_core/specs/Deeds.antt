-- What is done with a store, one thing after the other: it is called, or it is shown what its session makes known.
use Rattle.std.specs.Prelude.{List, [], ◌∷◌, Option, None, Some}
use Rattle.pcep_messages.specs.declared.message.Message.{Message}
use Rattle.pcep_objects.specs.declared.session_objects.Open.{Open}
use Rattle.engine_core.specs.declared.store.Call.{Call}

-- the peer's Open, as the session comes up (RFC 5440 section 6.2), or a message that it delivers
pub data Sight : Type 0 where
  Opened : Open → Sight
  Delivered : Message → Sight

-- an event was submitted, and got its reply; or this was shown
pub data Deed : Type 0 where
  Called : Call → Deed
  Shown : Sight → Deed

-- only the calls
abbrev pub calls_of : List Deed → List Call
calls_of [] = []
calls_of (Called call ∷ deeds) = call ∷ calls_of deeds
calls_of (Shown sight ∷ deeds) = calls_of deeds

-- only what was shown
abbrev pub sights_of : List Deed → List Sight
sights_of [] = []
sights_of (Called call ∷ deeds) = sights_of deeds
sights_of (Shown sight ∷ deeds) = sight ∷ sights_of deeds

-- the peer's Open is shown, if there is one
abbrev pub open_shown : Option Open → List Deed
open_shown None = []
open_shown (Some open_) = Shown (Opened open_) ∷ []
