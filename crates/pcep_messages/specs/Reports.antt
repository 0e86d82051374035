-- What the items of a state report say (RFC 8231 section 6.1), or the first fault.
use Rattle.std.specs.Prelude.{ℕ, Bool, false, not, ◌&&◌, List, [], ◌∷◌, Option, Some, None, is_none, Result, Ok, Err, ◌==◌, if◌then◌else◌}
use Rattle.std.specs.Option.{unwrap_or}
use Rattle.pcep_word.specs.Priority.{InForce, in_force}
use Rattle.pcep_objects.specs.Steps.{◌>>=◌}
use Rattle.pcep_objects.specs.declared.fault.ObjectFault.{ObjectFault}
use Rattle.lsp_words.specs.declared.object.Hop.{Hop}
use Rattle.pcep_objects.specs.declared.object.Srp.{Srp}
use Rattle.pcep_objects.specs.declared.object.LspObject.{LspObject}
use Rattle.pcep_objects.specs.declared.object.Object.{Object}
use Rattle.lsp_words.specs.declared.object.Colours.{Colours}
use Rattle.pcep_objects.specs.declared.object.Lspa.{Lspa}
use Rattle.pcep_messages.specs.Counting.{first_of, srp_of, lsp_of, ero_of, rro_of, lspa_of, bandwidth_of, greatest_of}
use Rattle.pcep_messages.specs.Items.{named_in, up_to_start, items_in}
use Rattle.pcep_messages.specs.Objects.{found_in}
use Rattle.pcep_messages.specs.declared.fault.About.{About}
use Rattle.pcep_messages.specs.declared.fault.About.TheVariants as about
use Rattle.pcep_messages.specs.declared.fault.MessageFault.{MessageFault}
use Rattle.pcep_messages.specs.declared.fault.MessageFault.TheVariants.{BadObject, MissingIdentifiers, Refused}
use Rattle.pcep_messages.specs.declared.message.StateReport.{StateReport}

-- SRP-ID 0 counts as no SRP
abbrev pub srp_id : Option Srp → Option ℕ
srp_id None = None
srp_id (Some srp) = if srp.id == 0 then None else Some srp.id

-- a fault of an item is about its SRP
abbrev pub about_srp : Option ℕ → About
about_srp None = about.Nothing
about_srp (Some id) = about.Srp id

-- an LSP must have identifiers, unless its PLSP-ID is 0
abbrev pub lacks_identifiers : LspObject → Bool
lacks_identifiers lsp = not (lsp.plsp == 0) && is_none lsp.identifiers

-- without LSPA both priorities are 7, and there are no colours
abbrev pub priorities_of : Option Lspa → InForce
priorities_of None = record { setup = 7; hold = 7 }
priorities_of (Some lspa) = in_force lspa.setup lspa.hold

abbrev pub colours_of : Option Lspa → Colours
colours_of None = record { exclude_any = 0; include_any = 0; include_all = 0 }
colours_of (Some lspa) = lspa.colours

-- local protection (flag L) is wanted only if an LSPA says so
abbrev pub is_protected : Option Lspa → Bool
is_protected None = false
is_protected (Some lspa) = lspa.local_protection

-- ---- one item, given the first of each of its objects and its greatest bandwidth; without ERO the route is empty

abbrev pub report_with : Option Srp → LspObject → Option (List Hop) → Option (List Hop) → Option Lspa → ℕ → StateReport
report_with srp lsp ero rro lspa bandwidth = record {
  srp = srp_id srp;
  plsp = lsp.plsp;
  remove = lsp.remove;
  sync = lsp.sync;
  delegate = lsp.delegate;
  admin = lsp.admin;
  operational = lsp.operational;
  created = lsp.created;
  name = lsp.name;
  identifiers = lsp.identifiers;
  ero = unwrap_or ero [];
  rro = rro;
  bandwidth = bandwidth;
  priorities = priorities_of lspa;
  colours = colours_of lspa;
  local_protection = is_protected lspa;
  error_code = lsp.error_code;
  rsvp_error = lsp.rsvp_error;
}

-- A missing LSP is 6/8 (LSP missing), an LSP without its identifiers is MissingIdentifiers, and a missing ERO is 6/9
-- (ERO missing) unless the LSP was removed.
abbrev pub report_or_fault : Option Srp → Option LspObject → Option (List Hop) → Option (List Hop) → Option Lspa → ℕ → Result StateReport MessageFault
report_or_fault srp None ero rro lspa bandwidth = Err (Refused 6 8 (about_srp (srp_id srp)))
report_or_fault srp (Some lsp) ero rro lspa bandwidth =
    if lacks_identifiers lsp then Err (MissingIdentifiers (about_srp (srp_id srp)))
    else (if is_none ero && not lsp.remove then Err (Refused 6 9 (about_srp (srp_id srp))) else Ok (report_with srp lsp ero rro lspa bandwidth))

-- The fault of an item in which an object has a fault of its own. Only the item's LSP was checked, which comes before
-- that object and may lack its identifiers.
abbrev pub cut_off : Option Srp → Option LspObject → ObjectFault → MessageFault
cut_off srp None fault = BadObject fault (about_srp (srp_id srp))
cut_off srp (Some lsp) fault =
    if lacks_identifiers lsp then MissingIdentifiers (about_srp (srp_id srp)) else BadObject fault (about_srp (srp_id srp))

-- the report of an item's objects; an object's own fault may follow them
abbrev pub report_of : List Object → Option ObjectFault → Result StateReport MessageFault
report_of objects (Some fault) = Err (cut_off (first_of srp_of objects) (first_of lsp_of objects) fault)
report_of objects None =
    report_or_fault (first_of srp_of objects) (first_of lsp_of objects) (first_of ero_of objects) (first_of rro_of objects) (first_of lspa_of objects)
    (greatest_of bandwidth_of objects)

-- ---- all items

-- the fault belongs to the last item
abbrev pub own_fault : List (List Object) → Option ObjectFault → Option ObjectFault
own_fault [] fault = fault
own_fault (item ∷ items) fault = None

abbrev pub reports_of : List (List Object) → Option ObjectFault → Result (List StateReport) MessageFault
reports_of [] fault = Ok []
reports_of (item ∷ items) fault = do
  report ← report_of item (own_fault items fault)
  reports ← reports_of items fault
  Ok (report ∷ reports)

-- the fault if there is no item: an object's own fault, else 6/8 (LSP missing)
abbrev pub no_item : Option ObjectFault → MessageFault
no_item None = Refused 6 8 about.Nothing
no_item (Some fault) = BadObject fault about.Nothing

abbrev pub reports_or_none : List (List Object) → Option ObjectFault → Result (List StateReport) MessageFault
reports_or_none [] fault = Err (no_item fault)
reports_or_none (item ∷ items) fault = reports_of (item ∷ items) fault

-- an object before the first start is 6/8 (LSP missing) too
abbrev pub reports_behind : List Object → List (List Object) → Option ObjectFault → Result (List StateReport) MessageFault
reports_behind [] items fault = reports_or_none items fault
reports_behind (object ∷ front) items fault = Err (Refused 6 8 about.Nothing)

abbrev pub reports_in : List Object → Option ObjectFault → Result (List StateReport) MessageFault
reports_in named fault = reports_behind (up_to_start false named) (items_in false named) fault

-- what the body of a state report reads as
unfoldable pub report_body : List ℕ → Result (List StateReport) MessageFault
report_body body = reports_in (named_in (found_in body).objects) (found_in body).fault
