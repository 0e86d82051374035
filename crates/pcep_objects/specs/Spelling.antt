-- The one way in which an object is written: reserved bits, unnamed flags and padding are zero.
use Rattle.std.specs.Prelude.{◌≡◌, ◌≢◌, ◌⊎◌, ℕ, slice_index, ◌+◌, ◌-◌, ◌*◌, ◌%◌, ◌^◌, ◌<◌, ◌≤◌, Bool, true, false, ◌&&◌, List, [], ◌∷◌, ◌++◌, length, replicate, Option, Some, None, nat_lt, if◌then◌else◌}
use Rattle.std.specs.List.{flat_map, AllByRecursion}
use Rattle.byteorder.specs.Endian.{big_bytes}
use Rattle.pcep_word.specs.Word.{word_of, IsBandwidth, IsBound}
use Rattle.pcep_objects.specs.Tlvs.{padded}
use Rattle.pcep_objects.specs.Routes.{plain_type}
use Rattle.pcep_objects.specs.SessionObjects.{open_written, close_written, notification_written, error_written}
use Rattle.pcep_objects.specs.RequestObjects.{rp_written, no_path_written, end_points_written, IsRp, IsEndPoints}
use Rattle.pcep_objects.specs.Metrics.{metric_written}
use Rattle.pcep_objects.specs.Kinds.{class_number, type_number}
use Rattle.pcep_objects.specs.declared.kind.Kind.{Kind}
use Rattle.pcep_objects.specs.declared.kind.Kind.TheVariants as kinds
use Rattle.pcep_objects.specs.declared.object.BandwidthType.{BandwidthType}
use Rattle.pcep_objects.specs.declared.object.BandwidthType.TheVariants.{Requested, Current}
use Rattle.lsp_words.specs.declared.object.Colours.{Colours}
use Rattle.lsp_words.specs.declared.object.Hop.{Hop}
use Rattle.lsp_words.specs.declared.object.Hop.TheVariants.{Host, Other}
use Rattle.pcep_objects.specs.declared.object.Identifiers.{Identifiers}
use Rattle.pcep_objects.specs.declared.object.KeptClass.{KeptClass}
use Rattle.pcep_objects.specs.declared.object.KeptClass.TheVariants.{Iro, Svec, LoadBalancing}
use Rattle.pcep_objects.specs.declared.object.Kept.{Kept}
use Rattle.pcep_objects.specs.declared.object.LspObject.{LspObject}
use Rattle.pcep_objects.specs.declared.object.Lspa.{Lspa}
use Rattle.pcep_objects.specs.declared.object.Operational.{Operational}
use Rattle.pcep_objects.specs.declared.object.Operational.TheVariants.{Down, Up, Active, GoingDown, GoingUp}
use Rattle.pcep_objects.specs.declared.object.RsvpError.{RsvpError}
use Rattle.pcep_objects.specs.declared.object.Srp.{Srp}
use Rattle.pcep_objects.specs.declared.object.Object.{Object}
use Rattle.pcep_objects.specs.declared.object.Object.TheVariants as objects

-- a body with its header: the class, the type with the P flag, the length including the header
abbrev pub spelled : ℕ → ℕ → Bool → List ℕ → List ℕ
spelled class number p body = (class ∷ (number * 16 + (if p then 2 else 0)) ∷ []) ++ big_bytes 2 (length body + 4) ++ body

abbrev pub bandwidth_written : ℕ → List ℕ
bandwidth_written bandwidth = big_bytes 4 (word_of bandwidth)

abbrev pub hop_written : Hop → List ℕ
hop_written (Host address loose) = ((if loose then 0x81 else 1) ∷ 8 ∷ []) ++ big_bytes 4 address ++ (32 ∷ 0 ∷ [])
hop_written (Other kind bytes) = kind ∷ (length bytes + 2) ∷ bytes

abbrev pub hops_written : List Hop → List ℕ
hops_written hops = flat_map hop_written hops

unfoldable pub colours_written : Colours → List ℕ
colours_written colours = big_bytes 4 colours.exclude_any ++ big_bytes 4 colours.include_any ++ big_bytes 4 colours.include_all

abbrev pub lspa_written : Lspa → List ℕ
lspa_written lspa =
    colours_written lspa.colours ++ (lspa.setup ∷ lspa.hold ∷ (if lspa.local_protection then 1 else 0) ∷ 0 ∷ [])

abbrev pub operational_number : Operational → ℕ
operational_number Down = 0
operational_number Up = 1
operational_number Active = 2
operational_number GoingDown = 3
operational_number GoingUp = 4

abbrev pub lsp_word : LspObject → ℕ
lsp_word lsp =
    lsp.plsp * 2 ^ 12 + (if lsp.delegate then 0x001 else 0) + (if lsp.sync then 0x002 else 0) + (if lsp.remove then 0x004 else 0)
    + (if lsp.admin then 0x008 else 0) + operational_number lsp.operational * 0x010 + (if lsp.created then 0x080 else 0)

-- zeros after a value, up to a multiple of 4
abbrev pub zeros_after : List ℕ → List ℕ
zeros_after value = replicate (padded (length value) - length value) 0

abbrev pub tlv_written : ℕ → List ℕ → List ℕ
tlv_written kind value = (big_bytes 2 kind ++ big_bytes 2 (length value)) ++ value ++ zeros_after value

abbrev pub name_written : Option (List ℕ) → List ℕ
name_written None = []
name_written (Some name) = tlv_written 17 name

abbrev pub identifiers_value : Identifiers → List ℕ
identifiers_value identifiers =
    big_bytes 4 identifiers.sender ++ big_bytes 2 identifiers.lsp ++ big_bytes 2 identifiers.tunnel ++ big_bytes 4 identifiers.extended
    ++ big_bytes 4 identifiers.endpoint

abbrev pub identifiers_written : Option Identifiers → List ℕ
identifiers_written None = []
identifiers_written (Some identifiers) = (big_bytes 2 18 ++ big_bytes 2 16) ++ identifiers_value identifiers

abbrev pub error_code_written : Option ℕ → List ℕ
error_code_written None = []
error_code_written (Some code) = (big_bytes 2 20 ++ big_bytes 2 4) ++ big_bytes 4 code

abbrev pub rsvp_error_value : RsvpError → List ℕ
rsvp_error_value error = big_bytes 4 0x000C0601 ++ big_bytes 4 error.node ++ (error.flags ∷ error.code ∷ []) ++ big_bytes 2 error.value

abbrev pub rsvp_error_written : Option RsvpError → List ℕ
rsvp_error_written None = []
rsvp_error_written (Some error) = (big_bytes 2 21 ++ big_bytes 2 12) ++ rsvp_error_value error

-- the TLVs after the name
abbrev pub details_written : Option Identifiers → Option ℕ → Option RsvpError → List ℕ
details_written identifiers error_code rsvp_error =
    identifiers_written identifiers ++ error_code_written error_code ++ rsvp_error_written rsvp_error

abbrev pub lsp_written : LspObject → List ℕ
lsp_written lsp =
    big_bytes 4 (lsp_word lsp) ++ name_written lsp.name ++ details_written lsp.identifiers lsp.error_code lsp.rsvp_error

abbrev pub srp_written : Srp → List ℕ
srp_written srp = big_bytes 4 (if srp.remove then 1 else 0) ++ big_bytes 4 srp.id

-- ---- objects of every kind

abbrev pub bandwidth_kind : BandwidthType → Kind
bandwidth_kind Requested = kinds.RequestedBandwidth
bandwidth_kind Current = kinds.CurrentBandwidth

abbrev pub kept_kind : KeptClass → Kind
kept_kind Iro = kinds.Iro
kept_kind Svec = kinds.Svec
kept_kind LoadBalancing = kinds.LoadBalancing

abbrev pub kind_of : Object → Kind
kind_of (objects.Open object) = kinds.Open
kind_of (objects.Rp object) = kinds.Rp
kind_of (objects.NoPath object) = kinds.NoPath
kind_of (objects.EndPoints object) = kinds.EndPoints
kind_of (objects.Bandwidth kind object) = bandwidth_kind kind
kind_of (objects.Metric object) = kinds.Metric
kind_of (objects.Ero hops) = kinds.Ero
kind_of (objects.Rro hops) = kinds.Rro
kind_of (objects.Lspa object) = kinds.Lspa
kind_of (objects.Kept object) = kept_kind object.class
kind_of (objects.Notification object) = kinds.Notification
kind_of (objects.Error object) = kinds.Error
kind_of (objects.Close object) = kinds.Close
kind_of (objects.Lsp object) = kinds.Lsp
kind_of (objects.Srp object) = kinds.Srp

-- P is copied in an RP, set in END-POINTS, and clear in all other objects
abbrev pub p_written : Object → Bool
p_written (objects.Rp object) = object.p
p_written (objects.EndPoints object) = true
p_written object = false

abbrev pub body_written : Object → List ℕ
body_written (objects.Open object) = open_written object
body_written (objects.Rp object) = rp_written object
body_written (objects.NoPath object) = no_path_written object
body_written (objects.EndPoints object) = end_points_written object
body_written (objects.Bandwidth kind bandwidth) = bandwidth_written bandwidth
body_written (objects.Metric object) = metric_written object
body_written (objects.Ero hops) = hops_written hops
body_written (objects.Rro hops) = hops_written hops
body_written (objects.Lspa object) = lspa_written object
body_written (objects.Kept object) = object.body
body_written (objects.Notification object) = notification_written object
body_written (objects.Error object) = error_written object
body_written (objects.Close object) = close_written object
body_written (objects.Lsp object) = lsp_written object
body_written (objects.Srp object) = srp_written object

abbrev pub written : Object → List ℕ
written object = spelled (class_number (kind_of object)) (type_number (kind_of object)) (p_written object) (body_written object)

-- ---- lengths that fit their fields: a subobject's is below 2 ^ 8, an object's below 2 ^ 16

abbrev pub hop_fits : Hop → Bool
hop_fits (Host address loose) = true
hop_fits (Other kind bytes) = nat_lt (length bytes + 2) (2 ^ 8)

unfoldable pub hops_fit : List Hop → Bool
hops_fit [] = true
hops_fit (hop ∷ hops) = hop_fits hop && hops_fit hops

abbrev pub parts_fit : Object → Bool
parts_fit (objects.Ero hops) = hops_fit hops
parts_fit (objects.Rro hops) = hops_fit hops
parts_fit object = true

abbrev pub fits : Object → Bool
fits object = parts_fit object && nat_lt (length (body_written object) + 4) (2 ^ 16)

-- ---- normal objects: values that bytes read as, with P as it is written

abbrev pub IsByte : ℕ → Type 0
IsByte number = number < 256

-- a subobject that is no host: its type isn't 1, or its prefix length isn't 32
abbrev pub IsOther : Bool → ℕ → List ℕ → Type 0
IsOther explicit kind bytes =
    (plain_type explicit kind ≢ 1) ⊎ ((plain_type explicit kind ≡ 1) × (length bytes ≡ 6) × (slice_index bytes 4 ≢ 32))

-- a hop that bytes can read as
abbrev pub IsHop : Bool → Hop → Type 0
IsHop explicit (Host address true) = (address < 2 ^ 32) × (explicit ≡ true)
IsHop explicit (Host address false) = address < 2 ^ 32
IsHop explicit (Other kind bytes) =
    (2 ≤ length bytes) × ((length bytes + 2) % 4 ≡ 0) × IsOther explicit kind bytes

pub record IsLspa (lspa : Lspa) : Type 0 where
  pub exclude_any : lspa.colours.exclude_any < 2 ^ 32
  pub include_any : lspa.colours.include_any < 2 ^ 32
  pub include_all : lspa.colours.include_all < 2 ^ 32
  pub setup : lspa.setup ≤ 7
  pub hold : lspa.hold ≤ 7

pub record IsKept (object : Kept) : Type 0 where
  pub p : object.p ≡ false
  pub whole : length object.body % 4 ≡ 0

pub record AreIdentifiers (identifiers : Identifiers) : Type 0 where
  pub sender : identifiers.sender < 2 ^ 32
  pub lsp : identifiers.lsp < 2 ^ 16
  pub tunnel : identifiers.tunnel < 2 ^ 16
  pub extended : identifiers.extended < 2 ^ 32
  pub endpoint : identifiers.endpoint < 2 ^ 32

abbrev pub MayBeIdentifiers : Option Identifiers → Type 0
MayBeIdentifiers None = Unit {0}
MayBeIdentifiers (Some identifiers) = AreIdentifiers identifiers

abbrev pub MayBeWord : Option ℕ → Type 0
MayBeWord None = Unit {0}
MayBeWord (Some word) = word < 2 ^ 32

pub record IsRsvpError (error : RsvpError) : Type 0 where
  pub node : error.node < 2 ^ 32
  pub value : error.value < 2 ^ 16

abbrev pub MayBeRsvpError : Option RsvpError → Type 0
MayBeRsvpError None = Unit {0}
MayBeRsvpError (Some error) = IsRsvpError error

pub record IsLsp (lsp : LspObject) : Type 0 where
  pub plsp : lsp.plsp < 2 ^ 20
  pub identifiers : MayBeIdentifiers lsp.identifiers
  pub error_code : MayBeWord lsp.error_code
  pub rsvp_error : MayBeRsvpError lsp.rsvp_error

-- if the value carries the P flag of its object, the flag is as it is written
abbrev pub HasWrittenP : Object → Type 0
HasWrittenP (objects.EndPoints object) = object.p ≡ true
HasWrittenP (objects.Kept object) = object.p ≡ false
HasWrittenP object = Unit {0}

abbrev pub IsNormal : Object → Type 0
IsNormal (objects.Rp object) = IsRp object
IsNormal (objects.EndPoints object) = (object.p ≡ true) × IsEndPoints object
IsNormal (objects.Bandwidth kind bandwidth) = IsBandwidth bandwidth
IsNormal (objects.Metric object) = IsBound object.value
IsNormal (objects.Ero hops) = AllByRecursion (IsHop true) hops
IsNormal (objects.Rro hops) = AllByRecursion (IsHop false) hops
IsNormal (objects.Lspa object) = IsLspa object
IsNormal (objects.Kept object) = IsKept object
IsNormal (objects.Lsp object) = IsLsp object
IsNormal (objects.Srp object) = object.id < 2 ^ 32
IsNormal object = Unit {0}
