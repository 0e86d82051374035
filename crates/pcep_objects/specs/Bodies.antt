-- The bodies of objects, class by class. Reserved bits and unnamed flags are ignored.
use Rattle.std.specs.Prelude.{ℕ, Bool, ◌/◌, ◌%◌, ◌^◌, min, true, false, not, List, length, drop, slice_index, Option, Some, None, Result, Ok, Err, nat_lt, ◌==◌, if◌then◌else◌}
use Rattle.std.specs.Option.{option_map}
use Rattle.pcep_word.specs.Word.{bandwidth_of}
use Rattle.pcep_objects.specs.Steps.{◌>>=◌, field, has}
use Rattle.pcep_objects.specs.Tlvs.{skipped_tlvs, value_in, fitting_in, identifiers_of, rsvp_error_in}
use Rattle.pcep_objects.specs.Routes.{hops_of}
use Rattle.pcep_objects.specs.declared.fault.BodyFault.{BodyFault}
use Rattle.pcep_objects.specs.declared.fault.BodyFault.TheVariants.{BadLength, BadNumber}
use Rattle.pcep_objects.specs.declared.object.BandwidthType.{BandwidthType}
use Rattle.pcep_objects.specs.declared.object.Operational.{Operational}
use Rattle.pcep_objects.specs.declared.object.Operational.TheVariants.{Down, Up, Active, GoingDown, GoingUp}
use Rattle.pcep_objects.specs.declared.object.KeptClass.{KeptClass}
use Rattle.pcep_objects.specs.declared.object.Object.{Object}
use Rattle.pcep_objects.specs.declared.object.Object.TheVariants.{Bandwidth, Ero, Rro, Lspa, Kept, Lsp, Srp}

-- BANDWIDTH (RFC 5440 section 7.7): one word, rounded up to whole bytes per second
abbrev pub bandwidth_or_bad : BandwidthType → Option ℕ → Result Object BodyFault
bandwidth_or_bad kind None = Err BadNumber
bandwidth_or_bad kind (Some bandwidth) = Ok (Bandwidth kind bandwidth)

unfoldable pub bandwidth_body : BandwidthType → List ℕ → Result Object BodyFault
bandwidth_body kind body =
    if not (length body == 4) then Err BadLength else bandwidth_or_bad kind (bandwidth_of (field 0 4 body))

-- ERO (RFC 5440 section 7.9)
unfoldable pub ero_body : List ℕ → Result Object BodyFault
ero_body body = do
  hops ← hops_of true body
  Ok (Ero hops)

-- RRO (RFC 5440 section 7.10)
unfoldable pub rro_body : List ℕ → Result Object BodyFault
rro_body body = do
  hops ← hops_of false body
  Ok (Rro hops)

-- LSPA (RFC 5440 section 7.11): colours, priorities (above 7 counts as 7), flags (L 0x01), TLVs
unfoldable pub lspa_body : List ℕ → Result Object BodyFault
lspa_body body =
    if nat_lt (length body) 16 then Err BadLength else (do
      skipped ← skipped_tlvs (drop 16 body)
      Ok (Lspa (record {
        colours = record { exclude_any = field 0 4 body; include_any = field 4 4 body; include_all = field 8 4 body };
        setup = min (slice_index body 12) 7;
        hold = min (slice_index body 13) 7;
        local_protection = has (slice_index body 14) 0x01;
      })))

-- IRO, SVEC and LOAD-BALANCING (RFC 5440 sections 7.12, 7.13 and 7.16) are kept as bytes
abbrev pub kept : KeptClass → Bool → List ℕ → Object
kept class p body = Kept (record { class = class; p = p; body = body })

-- the O field of an LSP (RFC 8231 section 7.3): the values 5 to 7 count as UP
abbrev pub operational_of : ℕ → Operational
operational_of word =
    let o = word / 2 ^ 4 % 8 in
    if o == 0 then Down else (if o == 2 then Active else (if o == 3 then GoingDown else (if o == 4 then GoingUp else Up)))

-- LSP (RFC 8231 section 7.3, RFC 8281 section 5.3.1): a PLSP-ID of 20 bits, 12 flags, and TLVs. It names
-- SYMBOLIC-PATH-NAME (17, RFC 8231 section 7.3.2) and IPV4-LSP-IDENTIFIERS (18, of 16 bytes), and, if they have the
-- size given here, LSP-ERROR-CODE (20, RFC 8231 section 7.3.3) and RSVP-ERROR-SPEC (21, RFC 8231 section 7.3.4)
unfoldable pub lsp_body : List ℕ → Result Object BodyFault
lsp_body body =
    if nat_lt (length body) 4 then Err BadLength else (do
      identifiers ← value_in 18 (Some 16) (drop 4 body)
      name ← value_in 17 None (drop 4 body)
      error_code ← fitting_in 20 4 (drop 4 body)
      rsvp_error ← fitting_in 21 12 (drop 4 body)
      Ok (Lsp (record {
        plsp = field 0 4 body / 2 ^ 12;
        delegate = has (field 0 4 body) 0x001;
        sync = has (field 0 4 body) 0x002;
        remove = has (field 0 4 body) 0x004;
        admin = has (field 0 4 body) 0x008;
        operational = operational_of (field 0 4 body);
        created = has (field 0 4 body) 0x080;
        name = name;
        identifiers = option_map identifiers_of identifiers;
        error_code = option_map (field 0 4) error_code;
        rsvp_error = rsvp_error_in rsvp_error;
      })))

-- SRP (RFC 8231 section 7.2, RFC 8281 section 5.2): flags (R 0x1) and the SRP-ID, TLVs
unfoldable pub srp_body : List ℕ → Result Object BodyFault
srp_body body =
    if nat_lt (length body) 8 then Err BadLength else (do
      skipped ← skipped_tlvs (drop 8 body)
      Ok (Srp (record { remove = has (field 0 4 body) 0x1; id = field 4 4 body })))
