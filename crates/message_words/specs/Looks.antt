-- What a look at one object of a message shows, on the way to the one that has the fault.
use Rattle.std.specs.Prelude.{ℕ, ◌≡◌, ◌<◌, ◌≤◌, List, length}
use Rattle.pcep_objects.specs.declared.fault.ObjectFault.{ObjectFault}
use Rattle.pcep_objects.specs.declared.fault.ObjectFault.TheVariants.{UnknownClass, UnknownType}
use Rattle.pcep_messages.specs.declared.fault.MessageFault.{MessageFault}
use Rattle.message_words.specs.declared.places.Look.{Look}
use Rattle.message_words.specs.declared.places.Look.TheVariants.{Here, Next, Nowhere}
use Rattle.message_words.specs.Faults.{IsOwn, Shows}

-- an object that can't be read has the fault, or is passed over by its length
abbrev pub Passes : MessageFault → ObjectFault → Look → Type 0
Passes fault own Here = IsOwn fault own
Passes fault (UnknownClass p size) (Next n) = n ≡ size
Passes fault (UnknownType p size) (Next n) = n ≡ size
Passes fault own (Next n) = ⊥
Passes fault own Nowhere = Unit {0}

abbrev pub Sees : MessageFault → List ℕ → Look → Type 0
Sees fault bytes Here = Shows fault bytes
Sees fault bytes (Next n) = (0 < n) × (n ≤ length bytes)
Sees fault bytes Nowhere = Unit {0}
