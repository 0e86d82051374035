-- What a PCUpd (RFC 8231 section 6.2) and a PCInitiate (RFC 8281 section 5.1) ask for, or the first fault.
use Rattle.std.specs.Prelude.{ℕ, not, ◌&&◌, List, [], Option, Some, None, is_none, Result, Ok, Err, if◌then◌else◌}
use Rattle.std.specs.Option.{option_map, unwrap_or}
use Rattle.pcep_word.specs.Priority.{in_force}
use Rattle.pcep_objects.specs.Kinds.{class_number}
use Rattle.pcep_objects.specs.declared.kind.Kind.TheVariants as kinds
use Rattle.lsp_words.specs.declared.object.Hop.{Hop}
use Rattle.pcep_objects.specs.declared.object.LspObject.{LspObject}
use Rattle.pcep_objects.specs.declared.object.Lspa.{Lspa}
use Rattle.pcep_objects.specs.declared.object.Srp.{Srp}
use Rattle.pcep_objects.specs.declared.request_objects.EndPoints.{EndPoints}
use Rattle.pcep_messages.specs.Objects.{found_in}
use Rattle.pcep_messages.specs.Parts.{Parts, read_parts}
use Rattle.pcep_messages.specs.Reports.{srp_id, about_srp}
use Rattle.pcep_messages.specs.declared.fault.About.{About}
use Rattle.pcep_messages.specs.declared.fault.MessageFault.{MessageFault}
use Rattle.pcep_messages.specs.declared.fault.MessageFault.TheVariants.{Missing}
use Rattle.pcep_messages.specs.declared.message.Attributes.{Attributes}
use Rattle.pcep_messages.specs.declared.message.Create.{Create}
use Rattle.pcep_messages.specs.declared.message.Initiate.TheVariants as initiates
use Rattle.pcep_messages.specs.declared.message.Message.{Message}
use Rattle.pcep_messages.specs.declared.message.Message.TheVariants as messages
use Rattle.pcep_messages.specs.declared.message.Update.{Update}

-- a fault is about the request's SRP
abbrev pub about_parts : Parts → About
about_parts parts = about_srp (srp_id parts.srp)

abbrev pub attributes_of : Lspa → Attributes
attributes_of lspa = record { colours = lspa.colours; priorities = in_force lspa.setup lspa.hold; local_protection = lspa.local_protection }

-- ---- PCUpd: without ERO the route is empty

abbrev pub update_with : Srp → LspObject → Parts → Update
update_with srp lsp parts = record {
  srp = srp.id;
  plsp = lsp.plsp;
  delegate = lsp.delegate;
  admin = lsp.admin;
  ero = unwrap_or parts.ero [];
  attributes = option_map attributes_of parts.lspa;
  bandwidth = parts.bandwidth;
}

-- SRP, LSP and ERO must be present; if R of SRP is set, ERO may be missing
abbrev pub update_or_missing : Parts → Option Srp → Option LspObject → Result Message MessageFault
update_or_missing parts None lsp = Err (Missing (class_number kinds.Srp) (about_parts parts))
update_or_missing parts (Some srp) None = Err (Missing (class_number kinds.Lsp) (about_parts parts))
update_or_missing parts (Some srp) (Some lsp) =
    if is_none parts.ero && not srp.remove then Err (Missing (class_number kinds.Ero) (about_parts parts)) else Ok (messages.Update (update_with srp lsp parts))

abbrev pub update_of : Parts → Result Message MessageFault
update_of parts = update_or_missing parts parts.srp parts.lsp

unfoldable pub update_body : List ℕ → Result Message MessageFault
update_body body = read_parts about_parts update_of (found_in body)

-- ---- PCInitiate: without SYMBOLIC-PATH-NAME the name is empty

abbrev pub create_with : Srp → LspObject → EndPoints → List Hop → Parts → Create
create_with srp lsp end_points hops parts = record {
  srp = srp.id;
  name = unwrap_or lsp.name [];
  source = end_points.source;
  destination = end_points.destination;
  ero = hops;
  attributes = option_map attributes_of parts.lspa;
  bandwidth = parts.bandwidth;
}

-- a new LSP must also have ERO and END-POINTS
abbrev pub create_or_missing : Srp → LspObject → Parts → Option (List Hop) → Option EndPoints → Result Message MessageFault
create_or_missing srp lsp parts None end_points = Err (Missing (class_number kinds.Ero) (about_parts parts))
create_or_missing srp lsp parts (Some hops) None = Err (Missing (class_number kinds.EndPoints) (about_parts parts))
create_or_missing srp lsp parts (Some hops) (Some end_points) = Ok (messages.Initiate (initiates.Create (create_with srp lsp end_points hops parts)))

-- SRP and LSP must be present; if R of SRP is set they are enough, and the LSP is to be deleted
abbrev pub initiate_or_missing : Parts → Option Srp → Option LspObject → Result Message MessageFault
initiate_or_missing parts None lsp = Err (Missing (class_number kinds.Srp) (about_parts parts))
initiate_or_missing parts (Some srp) None = Err (Missing (class_number kinds.Lsp) (about_parts parts))
initiate_or_missing parts (Some srp) (Some lsp) =
    if srp.remove then Ok (messages.Initiate (initiates.Remove srp.id lsp.plsp)) else create_or_missing srp lsp parts parts.ero parts.end_points

abbrev pub initiate_of : Parts → Result Message MessageFault
initiate_of parts = initiate_or_missing parts parts.srp parts.lsp

unfoldable pub initiate_body : List ℕ → Result Message MessageFault
initiate_body body = read_parts about_parts initiate_of (found_in body)
