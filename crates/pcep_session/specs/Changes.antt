-- The steps of a turn as the code takes them: first the one that may lack memory, then the change.
use Rattle.std.specs.Prelude.{◌≡◌, ℕ, List, Option, Some, None, Result, Ok, Err, drop}
use Rattle.pcep_objects.specs.declared.session_objects.Open.{Open}
use Rattle.pcep_session.specs.Turns.{unrecognized_after}
use Rattle.pcep_session.specs.declared.contents.Contents.{Contents}
use Rattle.pcep_session.specs.declared.fault.SessionFault.{SessionFault}
use Rattle.pcep_session.specs.declared.fault.SessionFault.TheVariants as faults
use Rattle.pcep_session.specs.declared.table.Arrival.{Arrival}
use Rattle.pcep_session.specs.declared.table.State.{State}
use Rattle.pcep_session.specs.declared.table.State.TheVariants.{Up, Closed}

-- the changed moments; None: they stay as they are
abbrev pub changed_or : Option (List ℕ) → List ℕ → List ℕ
changed_or None moments = moments
changed_or (Some changed) moments = changed

abbrev pub UnrecognizedAfter : Arrival → ℕ → List ℕ → Option (List ℕ) → Type 0
UnrecognizedAfter a now_ms moments found = changed_or found moments ≡ unrecognized_after a now_ms moments

abbrev pub received_as : ℕ → Option (List ℕ) → Option Open → Contents → Contents
received_as size moments peer c = record c {
  bytes = drop size c.bytes;
  received_ms = c.moment_ms;
  unrecognized = changed_or moments c.unrecognized;
  peer = peer;
}

-- a session sends only once it is up
abbrev pub IsUpOr : Result (Unit {0}) SessionFault → State → Type 0
IsUpOr (Ok x) state = state ≡ Up
IsUpOr (Err fault) Up = ⊥
IsUpOr (Err fault) Closed = fault ≡ faults.Closed
IsUpOr (Err fault) state = fault ≡ faults.NotUp
