-- The kinds of objects, by class and type (RFC 5440 section 7, RFC 8231 section 7).
use Rattle.std.specs.Prelude.{ℕ, Bool, ◌&&◌, Option, Some, None, is_some, ◌==◌, if◌then◌else◌}
use Rattle.pcep_objects.specs.declared.kind.Kind.{Kind}
use Rattle.pcep_objects.specs.declared.kind.Kind.TheVariants.{Open, Rp, NoPath, EndPoints, RequestedBandwidth, CurrentBandwidth, Metric, Ero, Rro, Lspa, Iro, Svec, Notification, Error, LoadBalancing, Close, Lsp, Srp}

-- the kind of type 1 of a class
abbrev pub first_type : ℕ → Option Kind
first_type class =
    if class == 1 then Some Open
    else (if class == 2 then Some Rp
    else (if class == 3 then Some NoPath
    else (if class == 4 then Some EndPoints
    else (if class == 5 then Some RequestedBandwidth
    else (if class == 6 then Some Metric
    else (if class == 7 then Some Ero
    else (if class == 8 then Some Rro
    else (if class == 9 then Some Lspa
    else (if class == 10 then Some Iro
    else (if class == 11 then Some Svec
    else (if class == 12 then Some Notification
    else (if class == 13 then Some Error
    else (if class == 14 then Some LoadBalancing
    else (if class == 15 then Some Close
    else (if class == 32 then Some Lsp
    else (if class == 33 then Some Srp
    else None))))))))))))))))

-- The kind of a class and a type. Only BANDWIDTH has a type 2. None: it isn't known
abbrev pub kind_at : ℕ → ℕ → Option Kind
kind_at class number =
    if number == 1 then first_type class else (if class == 5 && number == 2 then Some CurrentBandwidth else None)

-- the classes that have a known type
abbrev pub is_known : ℕ → Bool
is_known class = is_some (first_type class)

abbrev pub class_number : Kind → ℕ
class_number Open = 1
class_number Rp = 2
class_number NoPath = 3
class_number EndPoints = 4
class_number RequestedBandwidth = 5
class_number CurrentBandwidth = 5
class_number Metric = 6
class_number Ero = 7
class_number Rro = 8
class_number Lspa = 9
class_number Iro = 10
class_number Svec = 11
class_number Notification = 12
class_number Error = 13
class_number LoadBalancing = 14
class_number Close = 15
class_number Lsp = 32
class_number Srp = 33

abbrev pub type_number : Kind → ℕ
type_number CurrentBandwidth = 2
type_number kind = 1
