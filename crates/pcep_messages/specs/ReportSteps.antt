-- The steps by which a reader takes in the objects of a state report, one after the other. No public clause cites them:
-- a lemma shows that they give the reports of the items (Reports).
use Rattle.std.specs.Prelude.{◌≡◌, max, List, [], ◌∷◌, ◌++◌, Option, Some, None, Result, Ok, Err}
use Rattle.std.specs.Option.{option_or}
use Rattle.pcep_objects.specs.Steps.{◌>>=◌}
use Rattle.pcep_objects.specs.declared.fault.ObjectFault.{ObjectFault}
use Rattle.pcep_objects.specs.declared.object.LspObject.{LspObject}
use Rattle.pcep_objects.specs.declared.object.Object.{Object}
use Rattle.pcep_objects.specs.declared.object.Object.TheVariants as objects
use Rattle.pcep_objects.specs.declared.object.Srp.{Srp}
use Rattle.pcep_messages.specs.Faults.{Fails}
use Rattle.pcep_messages.specs.Reports.{report_or_fault, cut_off, no_item}
use Rattle.pcep_messages.specs.declared.fault.About.TheVariants as about
use Rattle.pcep_messages.specs.declared.fault.MessageFault.{MessageFault}
use Rattle.pcep_messages.specs.declared.fault.MessageFault.TheVariants.{Refused}
use Rattle.pcep_messages.specs.declared.items.Item.{Item}
use Rattle.pcep_messages.specs.declared.items.ItemPosition.{ItemPosition}
use Rattle.pcep_messages.specs.declared.items.ItemPosition.TheVariants.{InFront, BehindSrp, Within}
use Rattle.pcep_messages.specs.declared.message.StateReport.{StateReport}

-- the reports of the items that have ended, what was read of the next item, and where in it the reader is
pub record State : Type 0 where
  pub reports : List StateReport
  pub item : Item
  pub place : ItemPosition

abbrev pub no_objects : Item
no_objects = record { srp = None; lsp = None; ero = None; rro = None; lspa = None; bandwidth = 0 }

abbrev pub begin : State
begin = record { reports = []; item = no_objects; place = InFront }

-- the report of what was read of an item
abbrev pub report_from : Item → Option ObjectFault → Result StateReport MessageFault
report_from item (Some fault) = Err (cut_off item.srp item.lsp fault)
report_from item None = report_or_fault item.srp item.lsp item.ero item.rro item.lspa item.bandwidth

abbrev pub with_report : List StateReport → Result StateReport MessageFault → Result (List StateReport) MessageFault
with_report reports last = last >>= λ report. Ok (reports ++ report ∷ [])

-- the reports with that of the item that ends here
abbrev pub ended : ItemPosition → List StateReport → Item → Result (List StateReport) MessageFault
ended InFront reports item = Ok reports
ended place reports item = with_report reports (report_from item None)

-- an object that starts no item must be inside one
abbrev pub inside : ItemPosition → List StateReport → Item → Result State MessageFault
inside InFront reports item = Err (Refused 6 8 about.Nothing)
inside place reports item = Ok (record { reports = reports; item = item; place = Within })

-- the reader's place after such an object
abbrev pub IsInside : ItemPosition → Result ItemPosition MessageFault → Type 0
IsInside InFront result = result ≡ Err (Refused 6 8 about.Nothing)
IsInside place result = result ≡ Ok Within

-- before the first item, nothing of one was read
abbrev pub IsEmptyInFront : ItemPosition → Item → Type 0
IsEmptyInFront InFront item = item ≡ no_objects
IsEmptyInFront place item = Unit {0}

abbrev pub started : ItemPosition → Item → Result (List StateReport) MessageFault → Result State MessageFault
started place item before = before >>= λ reports. Ok (record { reports = reports; item = item; place = place })

abbrev pub begun_by_srp : Srp → Item
begun_by_srp srp = record no_objects { srp = Some srp }

abbrev pub begun_by_lsp : LspObject → Item
begun_by_lsp lsp = record no_objects { lsp = Some lsp }

abbrev pub after_lsp : ItemPosition → LspObject → State → Result State MessageFault
after_lsp BehindSrp lsp s = Ok (record { reports = s.reports; item = record s.item { lsp = option_or s.item.lsp (Some lsp) }; place = Within })
after_lsp place lsp s = started Within (begun_by_lsp lsp) (ended place s.reports s.item)

abbrev pub after : Object → State → Result State MessageFault
after (objects.Srp srp) s = started BehindSrp (begun_by_srp srp) (ended s.place s.reports s.item)
after (objects.Lsp lsp) s = after_lsp s.place lsp s
after (objects.Ero hops) s = inside s.place s.reports (record s.item { ero = option_or s.item.ero (Some hops) })
after (objects.Rro hops) s = inside s.place s.reports (record s.item { rro = option_or s.item.rro (Some hops) })
after (objects.Lspa lspa) s = inside s.place s.reports (record s.item { lspa = option_or s.item.lspa (Some lspa) })
after (objects.Bandwidth kind bandwidth) s = inside s.place s.reports (record s.item { bandwidth = max s.item.bandwidth bandwidth })
after object s = Ok s

-- the reports at the end of the objects, or at an object that has a fault of its own
abbrev pub finished_at : ItemPosition → List StateReport → Item → Option ObjectFault → Result (List StateReport) MessageFault
finished_at InFront reports item own = Err (no_item own)
finished_at place reports item own = with_report reports (report_from item own)

abbrev pub finished : State → Option ObjectFault → Result (List StateReport) MessageFault
finished s own = finished_at s.place s.reports s.item own

-- a step returned what the definition gives, with these reports and this item
abbrev pub Steps : Result State MessageFault → Result ItemPosition MessageFault → List StateReport → Item → Type 0
Steps step (Ok place) reports item = step ≡ Ok (record { reports = reports; item = item; place = place })
Steps step (Err fault) reports item = Fails fault step

-- a step that may add a report returned what the definition gives
abbrev pub Ends : {U : Type 0} → Result (List StateReport) MessageFault → Result U MessageFault → List StateReport → Type 0
Ends step (Ok done) reports = step ≡ Ok reports
Ends step (Err fault) reports = Fails fault step
