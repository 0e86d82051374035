-- Lists of calls.
use Rattle.std.specs.Prelude.{◌≡◌, ℕ, List, [], ◌∷◌, ◌++◌, Option, Some, None, Result, Ok, Err}
use Rattle.std.specs.List.{flat_map}
use Rattle.pcep_messages.specs.declared.message.Message.{Message}
use Rattle.pcep_messages.specs.declared.notice.PcError.{PcError}
use Rattle.pcep_session.specs.Turns.{IsTurn, next}
use Rattle.pcep_session.specs.Calls.{begun, ticked, fed_by, sent, error_reported, ended_by, output_taken, Does}
use Rattle.pcep_session.specs.declared.contents.Contents.{Contents}
use Rattle.pcep_session.specs.declared.fault.SessionFault.{SessionFault}
use Rattle.pcep_session.specs.declared.fault.SessionFault.TheVariants.{OutOfMemory}
use Rattle.pcep_session.specs.declared.table.Input.{Input}

pub data Call : Type 0 where
  Feed : (piece : List ℕ) (now_ms : ℕ) → Call
  Tick : (now_ms : ℕ) → Call
  Next : Call
  Send : (message : Message) → Call
  Report_error : (error : PcError) → Call
  End : (error : Option PcError) (reason : Option ℕ) → Call
  Take_output : Call

-- a refused call leaves the session as it was
abbrev pub or_same : Contents → Result Contents SessionFault → Contents
or_same c (Ok after) = after
or_same c (Err fault) = c

abbrev pub after_call : Call → Contents → Contents
after_call (Feed piece now_ms) c = or_same c (fed_by piece now_ms c)
after_call (Tick now_ms) c = ticked now_ms c
after_call Next c = (next c).after
after_call (Send message) c = or_same c (sent message c)
after_call (Report_error error) c = or_same c (error_reported error c)
after_call (End error reason) c = or_same c (ended_by error reason c)
after_call Take_output c = output_taken c

abbrev pub given : Option Input → List Input
given None = []
given (Some input) = input ∷ []

abbrev pub inputs_of : Call → Contents → List Input
inputs_of Next c = given (next c).input
inputs_of call c = []

abbrev pub output_of : Call → Contents → List ℕ
output_of Take_output c = c.output
output_of call c = []

-- What a list of calls gives: the inputs, the session after them, and all the output, including what is not taken yet.
pub record Ran : Type 0 where
  pub inputs : List Input
  pub output : List ℕ
  pub after : Contents

abbrev pub behind : List Input → List ℕ → Ran → Ran
behind inputs output ran = record { inputs = inputs ++ ran.inputs; output = output ++ ran.output; after = ran.after }

abbrev pub run : List Call → Contents → Ran
run [] c = record { inputs = []; output = c.output; after = c }
run (call ∷ calls) c = behind (inputs_of call c) (output_of call c) (run calls (after_call call c))

-- a whole session, from its beginning
abbrev pub session : ℕ → List Call → Ran
session now_ms calls = run calls (begun now_ms)

-- a call that was made, with its answer
pub data Made : Type 0 where
  Fed : (piece : List ℕ) (now_ms : ℕ) (answer : Result (Unit {0}) SessionFault) → Made
  Ticked : (now_ms : ℕ) → Made
  Gave : (answer : Result (Option Input) SessionFault) → Made
  Sent : (message : Message) (answer : Result (Unit {0}) SessionFault) → Made
  Error_reported : (error : PcError) (answer : Result (Unit {0}) SessionFault) → Made
  Ended : (error : Option PcError) (reason : Option ℕ) (answer : Result (Unit {0}) SessionFault) → Made
  Output_taken : (output : List ℕ) → Made

-- what the contract of `next` says
abbrev pub Gives : Result (Option Input) SessionFault → Contents → Contents → Type 0
Gives (Ok input) old new = IsTurn (next old) input new
Gives (Err fault) old new = (new ≡ old) × (fault ≡ OutOfMemory)

-- what the contract of each call says of its answer and of the session before and after
abbrev pub Meets : Made → Contents → Contents → Type 0
Meets (Fed piece now_ms answer) old new = Does answer old new (fed_by piece now_ms old)
Meets (Ticked now_ms) old new = new ≡ ticked now_ms old
Meets (Gave answer) old new = Gives answer old new
Meets (Sent message answer) old new = Does answer old new (sent message old)
Meets (Error_reported error answer) old new = Does answer old new (error_reported error old)
Meets (Ended error reason answer) old new = Does answer old new (ended_by error reason old)
Meets (Output_taken output) old new = (output ≡ old.output) × (new ≡ output_taken old)

abbrev pub AllMeet : List Made → Contents → Contents → Type 0
AllMeet [] c after = after ≡ c
AllMeet (made ∷ rest) c after = (mid : Contents) × Meets made c mid × AllMeet rest mid after

-- the call, unless it ran out of memory: then it doesn't count
abbrev pub counted : {T : Type 0} → Result T SessionFault → Call → List Call
counted (Err OutOfMemory) call = []
counted answer call = call ∷ []

abbrev pub call_of : Made → List Call
call_of (Fed piece now_ms answer) = counted answer (Feed piece now_ms)
call_of (Ticked now_ms) = Tick now_ms ∷ []
call_of (Gave answer) = counted answer Next
call_of (Sent message answer) = counted answer (Send message)
call_of (Error_reported error answer) = counted answer (Report_error error)
call_of (Ended error reason answer) = counted answer (End error reason)
call_of (Output_taken output) = Take_output ∷ []

abbrev pub inputs_given : Made → List Input
inputs_given (Gave (Ok input)) = given input
inputs_given made = []

abbrev pub output_given : Made → List ℕ
output_given (Output_taken output) = output
output_given made = []

-- A list of calls that met their contracts is a run.
abbrev pub CallsAreARun : Type 0
CallsAreARun =
    (calls : List Made) (c after : Contents) → AllMeet calls c after
    → run (flat_map call_of calls) c ≡ record { inputs = flat_map inputs_given calls; output = flat_map output_given calls ++ after.output; after = after }
