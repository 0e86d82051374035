-- A list of calls that met their contracts is a run.
use Rattle.std.proofs.Common.{◌≡◌, ℕ, List, [], ◌∷◌, ◌++◌, refl, sym, ap, ◌∙◌, append_assoc}
use Rattle.std.specs.Prelude.{Option, Result, Ok, Err}
use Rattle.std.specs.List.{flat_map}
use Rattle.pcep_session.specs.Turns.{Turn}
use Rattle.pcep_session.specs.Calls.{fed_by, sent, error_reported, ended_by, Does}
use Rattle.pcep_session.specs.Runs.{Call, Feed, Next, Send, Report_error, End, Take_output, or_same, after_call, given, inputs_of, output_of, Ran, behind, run, Made, Fed, Ticked, Gave, Sent, Error_reported, Ended, Output_taken, Meets, counted, call_of, inputs_given, output_given, CallsAreARun}
use Rattle.pcep_session.specs.declared.contents.Contents.{Contents}
use Rattle.pcep_session.specs.declared.fault.SessionFault.{SessionFault}
use Rattle.pcep_session.specs.declared.fault.SessionFault.TheVariants.{Closed, OutOfMemory, NotUp, TooLong}
use Rattle.pcep_session.specs.declared.table.Input.{Input}

-- a call that gives nothing and may be refused
plain : {T : Type 0} (answer : Result T SessionFault) (call : Call) (calls : List Call) (step : Result Contents SessionFault) (c mid : Contents)
    → after_call call c ≡ or_same c step → inputs_of call c ≡ [] → output_of call c ≡ [] → Does answer c mid step
    → run (counted answer call ++ calls) c ≡ run calls mid
plain (Ok x) call calls step c mid after none nothing does =
    let then_ : after_call call c ≡ mid = after ∙ ap (or_same c) does in
    rw (none, nothing, then_) refl
plain (Err OutOfMemory) call calls step c mid after none nothing does = ap (run calls) (sym does.0)
plain (Err Closed) call calls step c mid after none nothing does =
    let then_ : after_call call c ≡ mid = after ∙ ap (or_same c) does.1 ∙ sym does.0 in
    rw (none, nothing, then_) refl
plain (Err NotUp) call calls step c mid after none nothing does =
    let then_ : after_call call c ≡ mid = after ∙ ap (or_same c) does.1 ∙ sym does.0 in
    rw (none, nothing, then_) refl
plain (Err TooLong) call calls step c mid after none nothing does =
    let then_ : after_call call c ≡ mid = after ∙ ap (or_same c) does.1 ∙ sym does.0 in
    rw (none, nothing, then_) refl

gave : (answer : Result (Option Input) SessionFault) (calls : List Call) (c mid : Contents) → Meets (Gave answer) c mid
    → run (counted answer Next ++ calls) c ≡ behind (inputs_given (Gave answer)) [] (run calls mid)
gave (Ok input) calls c mid met = ap (λ (t : Turn). behind (given t.input) [] (run calls t.after)) met
gave (Err OutOfMemory) calls c mid met = ap (run calls) (sym met.0)
gave (Err Closed) calls c mid met = let no : Closed ≡ OutOfMemory = met.1 in (cc)
gave (Err NotUp) calls c mid met = let no : NotUp ≡ OutOfMemory = met.1 in (cc)
gave (Err TooLong) calls c mid met = let no : TooLong ≡ OutOfMemory = met.1 in (cc)

met_run : (made : Made) (calls : List Call) (c mid : Contents) → Meets made c mid → run (call_of made ++ calls) c ≡ behind (inputs_given made) (output_given made) (run calls mid)
met_run (Fed piece now_ms answer) calls c mid met = plain answer (Feed piece now_ms) calls (fed_by piece now_ms c) c mid refl refl refl met
met_run (Ticked now_ms) calls c mid met = ap (run calls) (sym met)
met_run (Gave answer) calls c mid met = gave answer calls c mid met
met_run (Sent message answer) calls c mid met = plain answer (Send message) calls (sent message c) c mid refl refl refl met
met_run (Error_reported error answer) calls c mid met = plain answer (Report_error error) calls (error_reported error c) c mid refl refl refl met
met_run (Ended error reason answer) calls c mid met = plain answer (End error reason) calls (ended_by error reason c) c mid refl refl refl met
met_run (Output_taken output) calls c mid met =
    ap (λ (o : List ℕ). behind [] o (run calls (after_call Take_output c))) (sym met.0) ∙ ap (λ (k : Contents). behind [] output (run calls k)) (sym met.1)

abbrev ran : List Input → Contents → List ℕ → Ran
ran inputs after output = record { inputs = inputs; output = output; after = after }

pub all_met : CallsAreARun
all_met [] c after met = ap (run []) (sym met)
all_met (made ∷ rest) c after met =
    met_run made (flat_map call_of rest) c met.0 met.1
    ∙ ap (behind (inputs_given made) (output_given made)) (all_met rest met.0 after met.2)
    ∙ ap (ran (inputs_given made ++ flat_map inputs_given rest) after) (sym (append_assoc (output_given made) (flat_map output_given rest) after.output))
