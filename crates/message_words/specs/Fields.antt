-- The fields that objects and messages share, in words.
use Rattle.std.specs.Prelude.{ℕ, ◌≡◌, ◌==◌, ◌&&◌, not, nat_le, Bool, true, false, List, [], ◌∷◌, ◌++◌, codes, Option, Some, None, Result, OnOk, string_bytes, if◌then◌else◌}
use Rattle.std.specs.Fmt.{decimal}
use Rattle.std.specs.List.{list_all}
use Rattle.std.specs.declared.alloc.Global.{Global}
use Rattle.std.specs.declared.string.String.{String}
use Rattle.byteorder.specs.Endian.{big_bytes}
use Rattle.hex.specs.Hex.{encode_lower}
use Rattle.pcep_word.specs.Address.{text_of}
use Rattle.lsp_words.specs.declared.object.Capabilities.{Capabilities}
use Rattle.lsp_words.specs.declared.object.Colours.{Colours}
use Rattle.lsp_words.specs.declared.object.Hop.{Hop}
use Rattle.lsp_words.specs.declared.object.Hop.TheVariants.{Host, Other}
use Rattle.pcep_objects.specs.declared.object.Identifiers.{Identifiers}
use Rattle.pcep_objects.specs.declared.object.RsvpError.{RsvpError}
use Rattle.pcep_objects.specs.declared.object.Operational.{Operational}
use Rattle.pcep_objects.specs.declared.object.Operational.TheVariants.{Down, Up, Active, GoingDown, GoingUp}
use Rattle.pcep_objects.specs.declared.request_objects.NoPathVector.{NoPathVector}
use Rattle.message_words.specs.declared.fields.LspFields.{LspFields}

-- the text gains these bytes, unless memory was refused
abbrev pub Adds : {X E : Type 0} → Result X E → String Global → String Global → List ℕ → Type 0
Adds result old new words = OnOk result (string_bytes new ≡ string_bytes old ++ words)

-- one text followed by another
infixr 5 ◌+>◌
abbrev pub ◌+>◌ : List ℕ → List ℕ → List ℕ
a +> b = a ++ b

-- a flag is 0 or 1
abbrev pub bit : Bool → List ℕ
bit false = codes "0"
bit true = codes "1"

-- a word of 32 bits as eight digits
abbrev pub word_digits : ℕ → List ℕ
word_digits n = encode_lower (big_bytes 4 n)

-- the states of an LSP (RFC 8231 section 7.3)
abbrev pub state_word : Operational → List ℕ
state_word Down = codes "down"
state_word Up = codes "up"
state_word Active = codes "active"
state_word GoingDown = codes "going-down"
state_word GoingUp = codes "going-up"

abbrev pub flag_words : LspFields → List ℕ
flag_words f = codes " delegate " +> bit f.delegate +> codes " sync " +> bit f.sync +> codes " remove " +> bit f.remove +> codes " admin " +> bit f.admin

abbrev pub lsp_field_words : LspFields → List ℕ
lsp_field_words f = (codes "LSP plsp-id " +> decimal f.plsp) +> flag_words f +> codes " oper " +> state_word f.operational +> codes " create " +> bit f.created

-- a printed character of ASCII or a space, and no quotation mark
abbrev pub is_plain : ℕ → Bool
is_plain byte = nat_le 0x20 byte && nat_le byte 0x7e && not (byte == 34)

-- a name in quotation marks, or as digits if it has other bytes
abbrev pub name_words : List ℕ → List ℕ
name_words name = if list_all is_plain name then codes " name \"" +> name +> codes "\"" else codes " name 0x" +> encode_lower name

abbrev pub identifier_words : Option Identifiers → List ℕ
identifier_words None = []
identifier_words (Some i) = codes " sender " +> text_of i.sender +> codes " lsp-id " +> decimal i.lsp +> codes " tunnel-id " +> decimal i.tunnel +> codes " extended-tunnel-id " +> text_of i.extended +> codes " endpoint " +> text_of i.endpoint

-- LSP-ERROR-CODE and RSVP-ERROR-SPEC (RFC 8231 sections 7.3.3 and 7.3.4)
abbrev pub error_code_words : Option ℕ → List ℕ
error_code_words None = []
error_code_words (Some code) = codes " error-code " +> decimal code

abbrev pub rsvp_error_words : Option RsvpError → List ℕ
rsvp_error_words None = []
rsvp_error_words (Some e) = codes " rsvp-error node " +> text_of e.node +> codes " flags " +> decimal e.flags +> codes " code " +> decimal e.code +> codes " value " +> decimal e.value

abbrev pub lsp_error_words : Option ℕ → Option RsvpError → List ℕ
lsp_error_words code error = error_code_words code +> rsvp_error_words error

-- local protection (flag L of LSPA) is named if it is set
abbrev pub protection_words : Bool → List ℕ
protection_words false = []
protection_words true = codes " local-protection 1"

abbrev pub loose_mark : Bool → List ℕ
loose_mark false = []
loose_mark true = codes "(loose)"

-- an address, or any other subobject by its first byte and what follows its length
abbrev pub hop_words : Hop → List ℕ
hop_words (Host address loose) = codes " " +> text_of address +> codes "/32" +> loose_mark loose
hop_words (Other first rest) = codes " 0x" +> encode_lower (first ∷ []) +> codes ":" +> encode_lower rest

abbrev pub hops_words : List Hop → List ℕ
hops_words [] = []
hops_words (hop ∷ hops) = hop_words hop +> hops_words hops

-- a name and a word of 32 bits as digits
abbrev pub named_word : List ℕ → ℕ → List ℕ
named_word name word = name +> word_digits word

unfoldable pub excluded : ℕ → List ℕ
excluded word = named_word (codes " exclude-any ") word

unfoldable pub included_any : ℕ → List ℕ
included_any word = named_word (codes " include-any ") word

unfoldable pub included_all : ℕ → List ℕ
included_all word = named_word (codes " include-all ") word

unfoldable pub colour_words : Colours → List ℕ
colour_words c = excluded c.exclude_any +> included_any c.include_any +> included_all c.include_all

-- the flags of STATEFUL-PCE-CAPABILITY
abbrev pub capability_words : Option Capabilities → List ℕ
capability_words None = []
capability_words (Some c) = codes " lsp-update " +> bit c.update +> codes " lsp-instantiation " +> bit c.create

-- the flags of NO-PATH-VECTOR
abbrev pub vector_words : Option NoPathVector → List ℕ
vector_words None = []
vector_words (Some v) = codes " pce-unavailable " +> bit v.pce_unavailable +> codes " unknown-destination " +> bit v.unknown_destination +> codes " unknown-source " +> bit v.unknown_source
