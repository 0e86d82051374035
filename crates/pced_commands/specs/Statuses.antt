-- The exit status of a run that a fault ended: that of a script (script_commands), and 4 for an audit.
use Rattle.std.specs.Prelude.{ℕ, Bool, true, false, Option, Some, None, Result, Ok, Err}
use Rattle.std.specs.declared.io.ErrorKind as system
use Rattle.std.specs.declared.io.ErrorKind.TheVariants as error
use Rattle.clap.specs.declared.error.kind.ErrorKind as words
use Rattle.clap.specs.declared.error.kind.ErrorKind.TheVariants as word
use Rattle.pce_engine.specs.declared.fault.ScriptFault.{ScriptFault}
use Rattle.pce_engine.specs.declared.fault.ScriptFault.TheVariants.{ReadFault, OutOfMemory}
use Rattle.te_base.specs.declared.fault.TeFault.{TeFault}
use Rattle.control_socket.specs.declared.ask.Outcome.{Outcome}
use Rattle.control_socket.specs.declared.ask.Outcome.TheVariants as outcome
use Rattle.history_seats.specs.declared.fault.AuditFault.{AuditFault}
use Rattle.history_seats.specs.declared.fault.AuditFault.TheVariants as audit
use Rattle.server_signals.specs.declared.run.RunFault.{RunFault}
use Rattle.server_signals.specs.declared.run.RunFault.TheVariants as run
use Rattle.pced_commands.specs.declared.fault.ServeFault.{ServeFault}
use Rattle.pced_commands.specs.declared.fault.ServeFault.TheVariants as serve
use Rattle.pced_commands.specs.declared.tell.TellFault.{TellFault}
use Rattle.pced_commands.specs.declared.tell.TellFault.TheVariants as tell
use Rattle.pced_commands.specs.declared.tell.LinesEnd.{LinesEnd}
use Rattle.pced_commands.specs.declared.tell.LinesEnd.TheVariants.{AllHeard, SomeRefused, SomeBad, SomeUnread, SomeShort}
use Rattle.script_commands.specs.Statuses.{te_status}

-- the exit status of a check of a link text
abbrev pub checked_status : Option TeFault → ℕ
checked_status None = 0
checked_status (Some fault) = te_status fault

-- the exit status of an audit's fault; if memory ran out, nothing was judged
abbrev pub audit_status : AuditFault → ℕ
audit_status audit.OutOfMemory = 5
audit_status fault = 4

abbrev pub run_status : RunFault → ℕ
run_status run.Device = 3
run_status (run.Store fault) = 5
run_status (run.Audit fault) = audit_status fault

abbrev pub serve_status : ServeFault → ℕ
serve_status serve.BadArgument = 2
serve_status serve.Device = 3
serve_status (serve.Te fault) = te_status fault
serve_status (serve.Run fault) = run_status fault

-- the exit status of a server
abbrev pub ended_serve_status : {X : Type 0} → Result X ServeFault → ℕ
ended_serve_status (Ok x) = 0
ended_serve_status (Err fault) = serve_status fault

-- the fault of a failed exchange with a server
abbrev pub tell_fault : system.ErrorKind → TellFault
tell_fault error.OutOfMemory = tell.OutOfMemory
tell_fault error.BrokenPipe = tell.BrokenOff
tell_fault error.ConnectionReset = tell.BrokenOff
tell_fault error.TimedOut = tell.BrokenOff
tell_fault error.WouldBlock = tell.BrokenOff
tell_fault kind = tell.Nobody

abbrev pub tell_status : TellFault → ℕ
tell_status tell.BadArgument = 2
tell_status tell.Nobody = 3
tell_status tell.BrokenOff = 3
tell_status tell.Device = 3
tell_status tell.OutOfMemory = 5

-- what came of a line that was answered so
abbrev pub end_of : Outcome → Result LinesEnd TellFault
end_of outcome.Answered = Ok AllHeard
end_of outcome.Refused = Ok SomeRefused
end_of outcome.Bad = Ok SomeBad
end_of outcome.Unread = Ok SomeUnread
end_of outcome.Short = Ok SomeShort
end_of outcome.BrokenOff = Err tell.BrokenOff

-- the exit status of lines that were answered
abbrev pub lines_status : LinesEnd → ℕ
lines_status AllHeard = 0
lines_status SomeRefused = 1
lines_status SomeBad = 2
lines_status SomeUnread = 3
lines_status SomeShort = 5

abbrev pub ended_tell_status : Result LinesEnd TellFault → ℕ
ended_tell_status (Ok end) = lines_status end
ended_tell_status (Err fault) = tell_status fault

-- the exit status for words that are no command: 0 if they ask for help or the version
abbrev pub refused_status : words.ErrorKind → ℕ
refused_status word.OutOfMemory = 5
refused_status word.DisplayHelp = 0
refused_status word.DisplayVersion = 0
refused_status _ = 2

-- the fault of a command whose file can't be read
abbrev pub unread_fault : Bool → ScriptFault
unread_fault true = OutOfMemory 0
unread_fault false = ReadFault
