-- A plan that is carried out against one database, on one thread.
use Rattle.std.specs.Prelude.{◌≡◌, Result, Ok, Err}
use Rattle.history_core.specs.Histories.{Content, applied}
use Rattle.history_core.specs.declared.fault.Fault.{Fault}
use Rattle.history_core.specs.declared.fault.Fault.TheVariants.{OutOfMemory, HistoryFull}
use Rattle.engine_core.specs.Plans.{Plan, Returns, Reaches, Shows, Submits}

abbrev pub and_then : {A B : Type 0} → Result A Fault → (A → Result B Fault) → Result B Fault
and_then (Ok a) go_on = go_on a
and_then (Err fault) go_on = Err fault

-- each event is a step of the database, until one can't be kept
abbrev pub performed : {W : Type 0} → Plan W → Content → Result (W × Content) Fault
performed (Returns w) d = Ok (w, d)
performed (Reaches c plan) d = performed plan d
performed (Shows sight plan) d = performed plan d
performed (Submits event go_on) d = and_then (applied d event) (λ done. performed (go_on done.0) done.1)

-- what a call that carries out a plan leaves; if memory ran out, nothing is claimed
abbrev pub Performs : {X W : Type 0} → Result X Fault → W → Content → Result (W × Content) Fault → Type 0
Performs (Ok x) after d given = given ≡ Ok (after, d)
Performs (Err OutOfMemory) after d given = Unit {0}
Performs (Err HistoryFull) after d given = given ≡ Err HistoryFull
