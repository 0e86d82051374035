-- Taking in the objects of a state report one after the other gives the reports of its items.
use Rattle.std.proofs.Common.{◌≡◌, ℕ, max, Bool, true, false, List, [], ◌∷◌, ◌++◌, map, fold, Option, Some, None, Result, Ok, Err, refl, sym, ap, ◌∙◌, arith}
use Rattle.std.specs.Option.{option_or}
use Rattle.pcep_objects.specs.Steps.{◌>>=◌}
use Rattle.pcep_objects.specs.declared.fault.ObjectFault.{ObjectFault}
use Rattle.lsp_words.specs.declared.object.Hop.{Hop}
use Rattle.pcep_objects.specs.declared.object.LspObject.{LspObject}
use Rattle.pcep_objects.specs.declared.object.Lspa.{Lspa}
use Rattle.pcep_objects.specs.declared.object.Object.{Object}
use Rattle.pcep_objects.specs.declared.object.Object.TheVariants as objects
use Rattle.pcep_objects.specs.declared.object.Srp.{Srp}
use Rattle.pcep_messages.specs.Counting.{first_of, srp_of, lsp_of, ero_of, rro_of, lspa_of, bandwidth_of}
use Rattle.pcep_messages.specs.Items.{named_in, up_to_start, items_in}
use Rattle.pcep_messages.specs.Objects.{found_in}
use Rattle.pcep_messages.specs.Reports.{report_of, own_fault, reports_of, reports_in, report_body}
use Rattle.pcep_messages.specs.ReportSteps.{State, no_objects, begin, begun_by_srp, begun_by_lsp, report_from, started, with_report, after, finished}
use Rattle.pcep_messages.specs.declared.fault.MessageFault.{MessageFault}
use Rattle.pcep_messages.specs.declared.items.Item.{Item}
use Rattle.pcep_messages.specs.declared.items.ItemPosition.{ItemPosition}
use Rattle.pcep_messages.specs.declared.items.ItemPosition.TheVariants.{BehindSrp, Within}
use Rattle.pcep_messages.specs.declared.message.StateReport.{StateReport}
use Rattle.pcep_messages.proofs.Running.{with_front, regroup, no_front, run, run_to_end, rest_gives}

pub or_assoc : {B : Type 0} (x y z : Option B) → option_or (option_or x y) z ≡ option_or x (option_or y z)
or_assoc None y z = refl
or_assoc (Some w) y z = refl

pub or_none : {B : Type 0} (x : Option B) → option_or x None ≡ x
or_none None = refl
or_none (Some w) = refl

-- ---- what counts of an item

-- what was read of an item, with the objects of it that follow
abbrev with_objects : Item → List Object → Item
with_objects item objects = record {
  srp = option_or item.srp (first_of srp_of objects);
  lsp = option_or item.lsp (first_of lsp_of objects);
  ero = option_or item.ero (first_of ero_of objects);
  rro = option_or item.rro (first_of rro_of objects);
  lspa = option_or item.lspa (first_of lspa_of objects);
  bandwidth = fold max item.bandwidth (map bandwidth_of objects);
}

with_none : (item : Item) → with_objects item [] ≡ item
with_none item = rw (or_none item.srp, or_none item.lsp, or_none item.ero, or_none item.rro, or_none item.lspa) refl

pub max_nothing : (n : ℕ) → max n 0 ≡ n
max_nothing n = omega arith

takes_lsp : (item : Item) (lsp : LspObject) (os : List Object) → with_objects item (objects.Lsp lsp ∷ os) ≡ with_objects (record item { lsp = option_or item.lsp (Some lsp) }) os
takes_lsp item lsp os =
    ap (λ (n : ℕ). record (with_objects item (objects.Lsp lsp ∷ os)) { bandwidth = fold max n (map bandwidth_of os) }) (max_nothing item.bandwidth)
    ∙ ap (λ (x : Option (LspObject)). record (with_objects item os) { lsp = x }) (sym (or_assoc item.lsp (Some lsp) (first_of lsp_of os)))

takes_ero : (item : Item) (hops : List Hop) (os : List Object) → with_objects item (objects.Ero hops ∷ os) ≡ with_objects (record item { ero = option_or item.ero (Some hops) }) os
takes_ero item hops os =
    ap (λ (n : ℕ). record (with_objects item (objects.Ero hops ∷ os)) { bandwidth = fold max n (map bandwidth_of os) }) (max_nothing item.bandwidth)
    ∙ ap (λ (x : Option (List Hop)). record (with_objects item os) { ero = x }) (sym (or_assoc item.ero (Some hops) (first_of ero_of os)))

takes_rro : (item : Item) (hops : List Hop) (os : List Object) → with_objects item (objects.Rro hops ∷ os) ≡ with_objects (record item { rro = option_or item.rro (Some hops) }) os
takes_rro item hops os =
    ap (λ (n : ℕ). record (with_objects item (objects.Rro hops ∷ os)) { bandwidth = fold max n (map bandwidth_of os) }) (max_nothing item.bandwidth)
    ∙ ap (λ (x : Option (List Hop)). record (with_objects item os) { rro = x }) (sym (or_assoc item.rro (Some hops) (first_of rro_of os)))

takes_lspa : (item : Item) (lspa : Lspa) (os : List Object) → with_objects item (objects.Lspa lspa ∷ os) ≡ with_objects (record item { lspa = option_or item.lspa (Some lspa) }) os
takes_lspa item lspa os =
    ap (λ (n : ℕ). record (with_objects item (objects.Lspa lspa ∷ os)) { bandwidth = fold max n (map bandwidth_of os) }) (max_nothing item.bandwidth)
    ∙ ap (λ (x : Option (Lspa)). record (with_objects item os) { lspa = x }) (sym (or_assoc item.lspa (Some lspa) (first_of lspa_of os)))

-- the objects of an item give what was read of it
said_by : (os : List Object) (own : Option ObjectFault) → report_of os own ≡ report_from (with_objects no_objects os) own
said_by os None = refl
said_by os (Some fault) = refl

-- ---- an item that has begun, and those after it

abbrev open_by : Item → List (List Object) → Option ObjectFault → Result (List StateReport) MessageFault
open_by whole items own = report_from whole (own_fault items own) >>= λ report. reports_of items own >>= λ reports. Ok (report ∷ reports)

abbrev open_then : Item → Bool → List Object → Option ObjectFault → Result (List StateReport) MessageFault
open_then item behind_srp named own = open_by (with_objects item (up_to_start behind_srp named)) (items_in behind_srp named) own

begins_with_srp : (srp : Srp) (named : List Object) (own : Option ObjectFault)
    → reports_of ((objects.Srp srp ∷ up_to_start true named) ∷ items_in true named) own ≡ open_then (begun_by_srp srp) true named own
begins_with_srp srp named own =
    ap (λ (r : Result StateReport MessageFault). r >>= λ report. reports_of (items_in true named) own >>= λ reports. Ok (report ∷ reports))
    (said_by (objects.Srp srp ∷ up_to_start true named) (own_fault (items_in true named) own))

begins_with_lsp : (lsp : LspObject) (named : List Object) (own : Option ObjectFault)
    → reports_of ((objects.Lsp lsp ∷ up_to_start false named) ∷ items_in false named) own ≡ open_then (begun_by_lsp lsp) false named own
begins_with_lsp lsp named own =
    ap (λ (r : Result StateReport MessageFault). r >>= λ report. reports_of (items_in false named) own >>= λ reports. Ok (report ∷ reports))
    (said_by (objects.Lsp lsp ∷ up_to_start false named) (own_fault (items_in false named) own))

-- ---- the reader, from within an item on

abbrev place_of : Bool → ItemPosition
place_of true = BehindSrp
place_of false = Within

abbrev state : List StateReport → Item → Bool → State
state reports item behind_srp = record { reports = reports; item = item; place = place_of behind_srp }

abbrev gives : State → List Object → Option ObjectFault → Result (List StateReport) MessageFault
gives s os own = run_to_end after finished s os own

last_report : (reports : List StateReport) (r : Result StateReport MessageFault) → with_report reports r ≡ with_front reports (r >>= λ x. Ok (x ∷ []))
last_report reports (Ok x) = refl
last_report reports (Err e) = refl

done : (reports : List StateReport) (item : Item) (own : Option ObjectFault) → with_report reports (report_from item own) ≡ with_front reports (open_by (with_objects item []) [] own)
done reports item own = last_report reports (report_from item own) ∙ ap (λ (i : Item). with_front reports (open_by i [] own)) (sym (with_none item))

-- the start of an item ends the item before it
next_item : (reports : List StateReport) (r : Result StateReport MessageFault) (item : Item) (behind_srp : Bool) (os : List Object) (own : Option ObjectFault) (others : Result (List StateReport) MessageFault)
    → ((before : List StateReport) → gives (state before item behind_srp) os own ≡ with_front before others)
    → ((started (place_of behind_srp) item (with_report reports r) >>= λ t. run after t os) >>= λ t. finished t own) ≡ with_front reports (r >>= λ x. others >>= λ xs. Ok (x ∷ xs))
next_item reports (Ok x) item behind_srp os own others goes = goes (reports ++ x ∷ []) ∙ sym (regroup reports x others)
next_item reports (Err e) item behind_srp os own others goes = refl

-- the same for the item that was read
ends_item : (reports : List StateReport) (read item : Item) (behind_srp : Bool) (os : List Object) (own : Option ObjectFault) (others : Result (List StateReport) MessageFault)
    → ((before : List StateReport) → gives (state before item behind_srp) os own ≡ with_front before others)
    → ((started (place_of behind_srp) item (with_report reports (report_from read None)) >>= λ t. run after t os) >>= λ t. finished t own)
    ≡ with_front reports (report_from (with_objects read []) None >>= λ x. others >>= λ xs. Ok (x ∷ xs))
ends_item reports read item behind_srp os own others goes =
    next_item reports (report_from read None) item behind_srp os own others goes
    ∙ ap (λ (i : Item). with_front reports (report_from i None >>= λ x. others >>= λ xs. Ok (x ∷ xs))) (sym (with_none read))

by_srp : (reports : List StateReport) (read : Item) (srp : Srp) (os : List Object) (own : Option ObjectFault)
    → ((before : List StateReport) → gives (state before (begun_by_srp srp) true) os own ≡ with_front before (open_then (begun_by_srp srp) true (named_in os) own))
    → ((started BehindSrp (begun_by_srp srp) (with_report reports (report_from read None)) >>= λ t. run after t os) >>= λ t. finished t own)
    ≡ with_front reports (open_by (with_objects read []) ((objects.Srp srp ∷ up_to_start true (named_in os)) ∷ items_in true (named_in os)) own)
by_srp reports read srp os own goes =
    ends_item reports read (begun_by_srp srp) true os own (open_then (begun_by_srp srp) true (named_in os) own) goes
    ∙ ap (λ (others : Result (List StateReport) MessageFault). with_front reports (report_from (with_objects read []) None >>= λ x. others >>= λ xs. Ok (x ∷ xs)))
    (sym (begins_with_srp srp (named_in os) own))

by_lsp : (reports : List StateReport) (read : Item) (lsp : LspObject) (os : List Object) (own : Option ObjectFault)
    → ((before : List StateReport) → gives (state before (begun_by_lsp lsp) false) os own ≡ with_front before (open_then (begun_by_lsp lsp) false (named_in os) own))
    → ((started Within (begun_by_lsp lsp) (with_report reports (report_from read None)) >>= λ t. run after t os) >>= λ t. finished t own)
    ≡ with_front reports (open_by (with_objects read []) ((objects.Lsp lsp ∷ up_to_start false (named_in os)) ∷ items_in false (named_in os)) own)
by_lsp reports read lsp os own goes =
    ends_item reports read (begun_by_lsp lsp) false os own (open_then (begun_by_lsp lsp) false (named_in os) own) goes
    ∙ ap (λ (others : Result (List StateReport) MessageFault). with_front reports (report_from (with_objects read []) None >>= λ x. others >>= λ xs. Ok (x ∷ xs)))
    (sym (begins_with_lsp lsp (named_in os) own))

-- an object of the item that is being read
abbrev joined : List StateReport → List Object → Option ObjectFault → Item → Result (List StateReport) MessageFault
joined reports os own whole = with_front reports (open_by whole (items_in false (named_in os)) own)

goes_on : (reports : List StateReport) (item : Item) (behind_srp : Bool) (os : List Object) (own : Option ObjectFault)
    → gives (state reports item behind_srp) os own ≡ with_front reports (open_then item behind_srp (named_in os) own)
goes_on reports item true [] own = done reports item own
goes_on reports item false [] own = done reports item own
goes_on reports item b (objects.Open x ∷ os) own = goes_on reports item b os own
goes_on reports item b (objects.Rp x ∷ os) own = goes_on reports item b os own
goes_on reports item b (objects.NoPath x ∷ os) own = goes_on reports item b os own
goes_on reports item b (objects.EndPoints x ∷ os) own = goes_on reports item b os own
goes_on reports item b (objects.Metric x ∷ os) own = goes_on reports item b os own
goes_on reports item b (objects.Kept x ∷ os) own = goes_on reports item b os own
goes_on reports item b (objects.Notification x ∷ os) own = goes_on reports item b os own
goes_on reports item b (objects.Error x ∷ os) own = goes_on reports item b os own
goes_on reports item b (objects.Close x ∷ os) own = goes_on reports item b os own
goes_on reports item true (objects.Bandwidth k n ∷ os) own = goes_on reports (record item { bandwidth = max item.bandwidth n }) false os own
goes_on reports item false (objects.Bandwidth k n ∷ os) own = goes_on reports (record item { bandwidth = max item.bandwidth n }) false os own
goes_on reports item true (objects.Ero h ∷ os) own = goes_on reports (record item { ero = option_or item.ero (Some h) }) false os own ∙ ap (joined reports os own) (sym (takes_ero item h (up_to_start false (named_in os))))
goes_on reports item false (objects.Ero h ∷ os) own = goes_on reports (record item { ero = option_or item.ero (Some h) }) false os own ∙ ap (joined reports os own) (sym (takes_ero item h (up_to_start false (named_in os))))
goes_on reports item true (objects.Rro h ∷ os) own = goes_on reports (record item { rro = option_or item.rro (Some h) }) false os own ∙ ap (joined reports os own) (sym (takes_rro item h (up_to_start false (named_in os))))
goes_on reports item false (objects.Rro h ∷ os) own = goes_on reports (record item { rro = option_or item.rro (Some h) }) false os own ∙ ap (joined reports os own) (sym (takes_rro item h (up_to_start false (named_in os))))
goes_on reports item true (objects.Lspa l ∷ os) own = goes_on reports (record item { lspa = option_or item.lspa (Some l) }) false os own ∙ ap (joined reports os own) (sym (takes_lspa item l (up_to_start false (named_in os))))
goes_on reports item false (objects.Lspa l ∷ os) own = goes_on reports (record item { lspa = option_or item.lspa (Some l) }) false os own ∙ ap (joined reports os own) (sym (takes_lspa item l (up_to_start false (named_in os))))
goes_on reports item true (objects.Lsp l ∷ os) own = goes_on reports (record item { lsp = option_or item.lsp (Some l) }) false os own ∙ ap (joined reports os own) (sym (takes_lsp item l (up_to_start false (named_in os))))
goes_on reports item false (objects.Lsp l ∷ os) own = by_lsp reports item l os own (λ before. goes_on before (begun_by_lsp l) false os own)
goes_on reports item true (objects.Srp s ∷ os) own = by_srp reports item s os own (λ before. goes_on before (begun_by_srp s) true os own)
goes_on reports item false (objects.Srp s ∷ os) own = by_srp reports item s os own (λ before. goes_on before (begun_by_srp s) true os own)

-- ---- the reader, from the beginning of the message on

pub from_front : (os : List Object) (own : Option ObjectFault) → run_to_end after finished begin os own ≡ reports_in (named_in os) own
from_front [] own = refl
from_front (objects.Open x ∷ os) own = from_front os own
from_front (objects.Rp x ∷ os) own = from_front os own
from_front (objects.NoPath x ∷ os) own = from_front os own
from_front (objects.EndPoints x ∷ os) own = from_front os own
from_front (objects.Metric x ∷ os) own = from_front os own
from_front (objects.Kept x ∷ os) own = from_front os own
from_front (objects.Notification x ∷ os) own = from_front os own
from_front (objects.Error x ∷ os) own = from_front os own
from_front (objects.Close x ∷ os) own = from_front os own
from_front (objects.Bandwidth k n ∷ os) own = refl
from_front (objects.Ero h ∷ os) own = refl
from_front (objects.Rro h ∷ os) own = refl
from_front (objects.Lspa l ∷ os) own = refl
from_front (objects.Lsp l ∷ os) own =
    goes_on [] (begun_by_lsp l) false os own ∙ no_front (open_then (begun_by_lsp l) false (named_in os) own) ∙ sym (begins_with_lsp l (named_in os) own)
from_front (objects.Srp s ∷ os) own =
    goes_on [] (begun_by_srp s) true os own ∙ no_front (open_then (begun_by_srp s) true (named_in os) own) ∙ sym (begins_with_srp s (named_in os) own)

pub starts_at : (bytes : List ℕ) → rest_gives after finished false begin bytes ≡ report_body bytes
unfolding report_body
starts_at bytes = from_front (found_in bytes).objects (found_in bytes).fault
