-- A PCRpt of one report (RFC 8231 section 6.1): its objects, its bytes, and the reports that are read again.
use Rattle.std.specs.Prelude.{ℕ, ◌≡◌, ◌≢◌, ◌+◌, ◌^◌, ◌<◌, ◌==◌, ◌&&◌, Bool, true, false, List, [], ◌∷◌, ◌++◌, length, Option, Some, None, nat_lt, if◌then◌else◌}
use Rattle.std.specs.List.{AllByRecursion}
use Rattle.pcep_word.specs.Word.{IsBandwidth}
use Rattle.lsp_words.specs.declared.object.Hop.{Hop}
use Rattle.pcep_objects.specs.Spelling.{IsHop, MayBeIdentifiers, MayBeWord, MayBeRsvpError}
use Rattle.pcep_objects.specs.declared.object.LspObject.{LspObject}
use Rattle.pcep_objects.specs.declared.object.Object.{Object}
use Rattle.pcep_objects.specs.declared.object.Object.TheVariants as objects
use Rattle.pcep_messages.specs.Normal.{IsWord, ArePriorities}
use Rattle.pcep_messages.specs.Reports.{lacks_identifiers}
use Rattle.pcep_messages.specs.Spelling.{srp_object, objects_spelled, objects_fit, message_spelled}
use Rattle.pcep_messages.specs.declared.message.StateReport.{StateReport}
use Rattle.item_messages.specs.Objects.{if_any, wish_objects}

abbrev pub lsp_of : StateReport → LspObject
lsp_of r = record {
  plsp = r.plsp;
  delegate = r.delegate;
  sync = r.sync;
  remove = r.remove;
  admin = r.admin;
  operational = r.operational;
  created = r.created;
  name = r.name;
  identifiers = r.identifiers;
  error_code = r.error_code;
  rsvp_error = r.rsvp_error;
}

-- an LSP that was removed may come without an ERO, which counts as an empty one
abbrev pub intended : Bool → List Hop → Option (List Hop)
intended remove hops = if remove && length hops == 0 then None else Some hops

-- [SRP] LSP
abbrev pub start_objects : StateReport → List Object
start_objects r = if_any (srp_object false) r.srp ++ objects.Lsp (lsp_of r) ∷ []

-- [ERO] [RRO]
abbrev pub route_objects : StateReport → List Object
route_objects r = if_any (λ hops. objects.Ero hops) (intended r.remove r.ero) ++ if_any (λ hops. objects.Rro hops) r.rro

-- [SRP] LSP [ERO] [RRO] [LSPA] [BANDWIDTH]
abbrev pub report_objects : StateReport → List Object
report_objects r = start_objects r ++ route_objects r ++ wish_objects r.priorities r.colours r.local_protection r.bandwidth

-- the bytes of the message
unfoldable pub report_written : StateReport → List ℕ
report_written r = message_spelled 10 (objects_spelled (report_objects r))

-- each length fits its field
unfoldable pub report_fits : StateReport → Bool
report_fits r = objects_fit (report_objects r) && nat_lt (length (objects_spelled (report_objects r)) + 4) (2 ^ 16)

-- SRP-ID 0 counts as none
abbrev pub MayBeSrp : Option ℕ → Type 0
MayBeSrp None = Unit {0}
MayBeSrp (Some id) = (id ≢ 0) × IsWord id

abbrev pub MayBeHops : Option (List Hop) → Type 0
MayBeHops None = Unit {0}
MayBeHops (Some hops) = AllByRecursion (IsHop false) hops

-- a report that the wire can have: each report that bytes read as is one
pub record IsReport (r : StateReport) : Type 0 where
  pub srp : MayBeSrp r.srp
  pub plsp : r.plsp < 2 ^ 20
  pub named : lacks_identifiers (lsp_of r) ≡ false
  pub identifiers : MayBeIdentifiers r.identifiers
  pub error_code : MayBeWord r.error_code
  pub rsvp_error : MayBeRsvpError r.rsvp_error
  pub ero : AllByRecursion (IsHop true) r.ero
  pub rro : MayBeHops r.rro
  pub bandwidth : IsBandwidth r.bandwidth
  pub exclude_any : IsWord r.colours.exclude_any
  pub include_any : IsWord r.colours.include_any
  pub include_all : IsWord r.colours.include_all
  pub priorities : ArePriorities r.priorities
