-- Why bytes can't be read, in words, where the fault is in the message, and what an open session answers.
use Rattle.std.specs.Prelude.{ℕ, ◌≡◌, ◌==◌, ◌&&◌, not, ◌++◌, Bool, true, false, List, [], drop, slice_index, codes, Option, Some, None, is_none, IfSome, Result, Ok, Err, if◌then◌else◌}
use Rattle.std.specs.Fmt.{decimal}
use Rattle.error_words.specs.Errors.{error_words}
use Rattle.pcep_objects.specs.Objects.{object_at}
use Rattle.pcep_objects.specs.declared.fault.ObjectFault.{ObjectFault}
use Rattle.pcep_objects.specs.declared.fault.ObjectFault.TheVariants as object
use Rattle.pcep_objects.specs.declared.object.Object.{Object}
use Rattle.pcep_objects.specs.declared.object.Object.TheVariants as objects
use Rattle.pcep_messages.specs.declared.fault.About.{About}
use Rattle.pcep_messages.specs.declared.fault.About.TheVariants as about
use Rattle.pcep_messages.specs.declared.fault.MessageFault.{MessageFault}
use Rattle.pcep_messages.specs.declared.fault.MessageFault.TheVariants.{BadHeader, BadObject, Missing, MissingIdentifiers, BadP, Refused, OutOfMemory}
use Rattle.message_words.specs.declared.codes.ErrorCode.{ErrorCode}
use Rattle.message_words.specs.declared.places.ObjectPlace.{ObjectPlace}
use Rattle.pcep_messages.specs.declared.message.Message.{Message}
use Rattle.pcep_session.specs.Table.{missing_value}
use Rattle.message_words.specs.Fields.{◌+>◌}
use Rattle.message_words.specs.Messages.{words_of}

-- ---- the error that answers a fault (RFC 5440 section 7.15, RFC 8231 section 8.5)

abbrev pub error_code : ℕ → ℕ → ErrorCode
error_code kind value = record { error_type = kind; value = value }

-- an object of this class is missing
abbrev pub missing_code : ℕ → ErrorCode
missing_code class =
    if class == 1 then error_code 1 1
    else (if class == 2 then error_code 6 1
    else (if class == 4 then error_code 6 3
    else (if class == 32 then error_code 6 8
    else (if class == 33 then error_code 6 10
    else error_code 6 9))))

abbrev pub object_code : ObjectFault → Option ErrorCode
object_code (object.UnknownClass p size) = Some (error_code 3 1)
object_code (object.UnknownType p size) = Some (error_code 3 2)
object_code fault = None

-- the error of the fault; None: the message is malformed
abbrev pub fault_code : MessageFault → Option ErrorCode
fault_code (BadObject fault a) = object_code fault
fault_code (Missing class a) = Some (missing_code class)
fault_code (MissingIdentifiers a) = Some (error_code 6 11)
fault_code (BadP a) = Some (error_code 10 1)
fault_code (Refused kind value a) = Some (error_code kind value)
fault_code BadHeader = None
fault_code OutOfMemory = None

-- ---- its words

abbrev pub code_words : ErrorCode → List ℕ
code_words c = codes "fault: " +> error_words c.error_type c.value +> codes ", PCErr " +> decimal c.error_type +> codes "/" +> decimal c.value

abbrev pub object_fault_name : ObjectFault → List ℕ
object_fault_name object.Short = codes "fewer than four bytes"
object_fault_name object.BadLength = codes "bad length of an object"
object_fault_name object.BadTlv = codes "bad TLV"
object_fault_name object.BadNumber = codes "bad number"
object_fault_name (object.UnknownClass p size) = codes "unknown object class"
object_fault_name (object.UnknownType p size) = codes "unknown object type"
object_fault_name object.OutOfMemory = codes "out of memory"

-- the words for a fault that has no error
abbrev pub malformed_name : MessageFault → List ℕ
malformed_name (BadObject fault a) = object_fault_name fault
malformed_name BadHeader = codes "bad message header"
malformed_name fault = codes "out of memory"

abbrev pub malformed_words : List ℕ → List ℕ
malformed_words name = codes "fault: " +> name

abbrev pub coded_or_malformed : MessageFault → Option ErrorCode → List ℕ
coded_or_malformed fault (Some code) = code_words code
coded_or_malformed fault None = malformed_words (malformed_name fault)

abbrev pub about_of : MessageFault → About
about_of (BadObject fault a) = a
about_of (Missing class a) = a
about_of (MissingIdentifiers a) = a
about_of (BadP a) = a
about_of (Refused kind value a) = a
about_of BadHeader = about.Nothing
about_of OutOfMemory = about.Nothing

-- the request that a fault is about, if it is known
abbrev pub about_words : About → List ℕ
about_words about.Nothing = []
about_words (about.Request id) = codes ", Request-ID " +> decimal id
about_words (about.Srp id) = codes ", SRP-ID " +> decimal id

abbrev pub fault_words : MessageFault → List ℕ
fault_words fault = coded_or_malformed fault (fault_code fault) +> about_words (about_of fault)

-- ---- what an open session answers: an error, a Close that ends it, or both

abbrev pub answering_code : MessageFault → Option ErrorCode
answering_code (Missing class a) = Some (error_code 6 (missing_value class))
answering_code fault = fault_code fault

abbrev pub is_unknown : ObjectFault → Bool
is_unknown (object.UnknownClass p size) = true
is_unknown (object.UnknownType p size) = true
is_unknown fault = false

-- a malformed message ends the session (RFC 5440 section 6.9)
abbrev pub ends_session : MessageFault → Bool
ends_session (BadObject fault a) = not (is_unknown fault)
ends_session (MissingIdentifiers a) = true
ends_session BadHeader = true
ends_session fault = false

abbrev pub close_words : Bool → List ℕ
close_words false = []
close_words true = codes " and Close 3"

unfoldable pub error_answer : ErrorCode → List ℕ
error_answer c = codes "\n  answered by PCErr " +> decimal c.error_type +> codes "/" +> decimal c.value

abbrev pub answer_words : Option ErrorCode → Bool → List ℕ
answer_words None closes = codes "\n  answered by Close 3"
answer_words (Some c) closes = error_answer c +> close_words closes

-- ---- where the fault stands

abbrev pub lacks_p : Object → Bool
lacks_p (objects.Rp rp) = not rp.p
lacks_p (objects.EndPoints ends) = not ends.p
lacks_p object = false

abbrev pub lacks_identifiers : Object → Bool
lacks_identifiers (objects.Lsp lsp) = not (lsp.plsp == 0) && is_none lsp.identifiers
lacks_identifiers object = false

abbrev pub is_kept_with_p : Object → Bool
is_kept_with_p (objects.Kept kept) = kept.p
is_kept_with_p object = false

-- An object that was read has the fault: P is clear in an RP or END-POINTS, an LSP lacks identifiers, or an object that
-- is not supported has P set. If something is missing, no object has the fault.
abbrev pub has_fault : MessageFault → Object → Bool
has_fault (BadP a) object = lacks_p object
has_fault (MissingIdentifiers a) object = lacks_identifiers object
has_fault (Refused kind value a) object = kind == 4 && is_kept_with_p object
has_fault fault object = false

-- an object that can't be read has this fault of its own
abbrev pub IsOwn : MessageFault → ObjectFault → Type 0
IsOwn (BadObject fault a) own = fault ≡ own
IsOwn fault own = ⊥

abbrev pub ShownBy : MessageFault → Result (Object × ℕ) ObjectFault → Type 0
ShownBy fault (Ok x) = has_fault fault x.0 ≡ true
ShownBy fault (Err own) = IsOwn fault own

-- the object at the front of these bytes has the fault
abbrev pub Shows : MessageFault → List ℕ → Type 0
Shows fault bytes = ShownBy fault (object_at bytes)

-- an object of the message has the fault, at this byte
abbrev pub StandsAt : MessageFault → List ℕ → Option ObjectPlace → Type 0
StandsAt fault bytes found = IfSome found (λ place. Shows fault (drop place.byte bytes))

-- the classes of objects (RFC 5440 section 7, RFC 8231 section 7)
abbrev pub class_name : ℕ → Option (List ℕ)
class_name class =
    if class == 1 then Some (codes "OPEN")
    else (if class == 2 then Some (codes "RP")
    else (if class == 3 then Some (codes "NO-PATH")
    else (if class == 4 then Some (codes "END-POINTS")
    else (if class == 5 then Some (codes "BANDWIDTH")
    else (if class == 6 then Some (codes "METRIC")
    else (if class == 7 then Some (codes "ERO")
    else (if class == 8 then Some (codes "RRO")
    else (if class == 9 then Some (codes "LSPA")
    else (if class == 10 then Some (codes "IRO")
    else (if class == 11 then Some (codes "SVEC")
    else (if class == 12 then Some (codes "NOTIFICATION")
    else (if class == 13 then Some (codes "PCEP-ERROR")
    else (if class == 14 then Some (codes "LOAD-BALANCING")
    else (if class == 15 then Some (codes "CLOSE")
    else (if class == 32 then Some (codes "LSP")
    else (if class == 33 then Some (codes "SRP")
    else None))))))))))))))))

abbrev pub class_words : ℕ → Option (List ℕ) → List ℕ
class_words class (Some name) = codes " in " +> name
class_words class None = codes " in an object of class " +> decimal class

abbrev pub byte_words : ℕ → List ℕ
byte_words byte = codes ", at byte " +> decimal byte

abbrev pub place_words : Option ObjectPlace → List ℕ
place_words None = []
place_words (Some place) = byte_words place.byte +> class_words place.class (class_name place.class)

-- ---- the message

-- the kinds of messages that are read (RFC 5440 section 6, RFC 8231 section 6, RFC 8281 section 5)
abbrev pub kind_name : ℕ → List ℕ
kind_name kind =
    if kind == 1 then codes "Open"
    else (if kind == 2 then codes "Keepalive"
    else (if kind == 3 then codes "PCReq"
    else (if kind == 4 then codes "PCRep"
    else (if kind == 5 then codes "PCNtf"
    else (if kind == 6 then codes "PCErr"
    else (if kind == 7 then codes "Close"
    else (if kind == 10 then codes "PCRpt"
    else (if kind == 11 then codes "PCUpd"
    else codes "PCInitiate"))))))))

-- the kind of a message whose header is valid
abbrev pub kind_words : MessageFault → ℕ → List ℕ
kind_words BadHeader kind = []
kind_words fault kind = kind_name kind +> codes "\n  "

abbrev pub faulty_words : MessageFault → ℕ → Option ObjectPlace → List ℕ
faulty_words fault kind place = kind_words fault kind +> fault_words fault +> place_words place +> answer_words (answering_code fault) (ends_session fault)

-- the text gains the words of the fault, with the byte at which it is
abbrev pub SaysFault : List ℕ → MessageFault → List ℕ → List ℕ → Type 0
SaysFault bytes fault old new = (place : Option ObjectPlace) × StandsAt fault bytes place × (new ≡ old ++ faulty_words fault (slice_index bytes 1) place)

-- the text gains the words of what the message says, or of its first fault
abbrev pub Says : List ℕ → Result Message MessageFault → List ℕ → List ℕ → Type 0
Says bytes (Ok message) old new = new ≡ old ++ words_of message
Says bytes (Err fault) old new = SaysFault bytes fault old new
