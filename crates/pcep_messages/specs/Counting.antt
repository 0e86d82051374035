-- What counts of several objects: the first of each class, and the greatest BANDWIDTH (RFC 5440 section 7).
use Rattle.std.specs.Prelude.{ℕ, max, List, [], ◌∷◌, map, fold, Option, Some, None}
use Rattle.std.specs.Option.{option_or}
use Rattle.pcep_objects.specs.declared.object.BandwidthType.TheVariants.{Requested}
use Rattle.lsp_words.specs.declared.object.Hop.{Hop}
use Rattle.pcep_objects.specs.declared.object.LspObject.{LspObject}
use Rattle.pcep_objects.specs.declared.object.Lspa.{Lspa}
use Rattle.pcep_objects.specs.declared.object.Metric.{Metric}
use Rattle.pcep_objects.specs.declared.object.Object.{Object}
use Rattle.pcep_objects.specs.declared.object.Object.TheVariants as objects
use Rattle.pcep_objects.specs.declared.object.Srp.{Srp}
use Rattle.pcep_objects.specs.declared.request_objects.EndPoints.{EndPoints}
use Rattle.pcep_objects.specs.declared.request_objects.NoPath.{NoPath}
use Rattle.pcep_objects.specs.declared.request_objects.Rp.{Rp}
use Rattle.pcep_objects.specs.declared.session_objects.Close.{Close}
use Rattle.pcep_objects.specs.declared.session_objects.Open.{Open}

-- the first value that one of the elements has
abbrev pub first_of : {A B : Type 0} → (A → Option B) → List A → Option B
first_of part [] = None
first_of part (x ∷ xs) = option_or (part x) (first_of part xs)

abbrev pub opening_of : Object → Option Open
opening_of (objects.Open opening) = Some opening
opening_of object = None

abbrev pub rp_of : Object → Option Rp
rp_of (objects.Rp rp) = Some rp
rp_of object = None

abbrev pub no_path_of : Object → Option NoPath
no_path_of (objects.NoPath no_path) = Some no_path
no_path_of object = None

abbrev pub srp_of : Object → Option Srp
srp_of (objects.Srp srp) = Some srp
srp_of object = None

abbrev pub lsp_of : Object → Option LspObject
lsp_of (objects.Lsp lsp) = Some lsp
lsp_of object = None

abbrev pub end_points_of : Object → Option EndPoints
end_points_of (objects.EndPoints ends) = Some ends
end_points_of object = None

abbrev pub ero_of : Object → Option (List Hop)
ero_of (objects.Ero hops) = Some hops
ero_of object = None

abbrev pub rro_of : Object → Option (List Hop)
rro_of (objects.Rro hops) = Some hops
rro_of object = None

abbrev pub lspa_of : Object → Option Lspa
lspa_of (objects.Lspa lspa) = Some lspa
lspa_of object = None

abbrev pub metric_of : Object → Option Metric
metric_of (objects.Metric metric) = Some metric
metric_of object = None

abbrev pub close_of : Object → Option Close
close_of (objects.Close close) = Some close
close_of object = None

-- the bandwidth of a BANDWIDTH of either type; 0 for any other object
abbrev pub bandwidth_of : Object → ℕ
bandwidth_of (objects.Bandwidth kind bandwidth) = bandwidth
bandwidth_of object = 0

-- the greatest of the objects' bandwidths, or 0 if there is none
abbrev pub greatest_of : (Object → ℕ) → List Object → ℕ
greatest_of bandwidth objects = fold max 0 (map bandwidth objects)

-- the bandwidth that a BANDWIDTH asks for (type 1)
abbrev pub requested_of : Object → Option ℕ
requested_of (objects.Bandwidth Requested bandwidth) = Some bandwidth
requested_of object = None

-- the greater of two bandwidths, either of which may be missing
abbrev pub greater_of : Option ℕ → Option ℕ → Option ℕ
greater_of None other = other
greater_of (Some bandwidth) None = Some bandwidth
greater_of (Some bandwidth) (Some other) = Some (max bandwidth other)

-- the greatest of the bandwidths that are asked for; None if there is none
abbrev pub greatest_requested : List Object → Option ℕ
greatest_requested objects = fold greater_of None (map requested_of objects)
