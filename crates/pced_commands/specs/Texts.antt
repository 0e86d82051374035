-- What is printed about the fault that ended a server.
use Rattle.std.specs.Prelude.{ℕ, List, codes}
use Rattle.pce_engine.specs.Faults.{te_text}
use Rattle.server_signals.specs.Texts.{run_text}
use Rattle.pced_commands.specs.declared.fault.ServeFault.{ServeFault}
use Rattle.pced_commands.specs.declared.fault.ServeFault.TheVariants.{BadArgument, Device, Te, Run}

-- the text on standard error
abbrev pub serve_text : ServeFault → List ℕ
serve_text BadArgument = codes "bad argument"
serve_text Device = codes "device fault"
serve_text (Te fault) = te_text fault
serve_text (Run fault) = run_text fault
