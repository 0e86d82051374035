-- The items of a state report (RFC 8231 section 6.1): [SRP] LSP ERO, then BANDWIDTHs, RRO and LSPA in any
-- order. Any other object is skipped.
use Rattle.std.specs.Prelude.{Bool, true, false, not, List, [], ◌∷◌, if◌then◌else◌}
use Rattle.std.specs.List.{filter}
use Rattle.pcep_objects.specs.declared.object.Object.{Object}
use Rattle.pcep_objects.specs.declared.object.Object.TheVariants as objects

-- the objects that a report names
abbrev pub is_named : Object → Bool
is_named (objects.Srp srp) = true
is_named (objects.Lsp lsp) = true
is_named (objects.Ero hops) = true
is_named (objects.Rro hops) = true
is_named (objects.Lspa lspa) = true
is_named (objects.Bandwidth kind bandwidth) = true
is_named object = false

abbrev pub named_in : List Object → List Object
named_in objects = filter is_named objects

abbrev pub is_srp : Object → Bool
is_srp (objects.Srp srp) = true
is_srp object = false

-- An SRP starts an item, and so does an LSP that isn't right after an SRP.
abbrev pub starts : (behind_srp : Bool) → Object → Bool
starts behind_srp (objects.Srp srp) = true
starts behind_srp (objects.Lsp lsp) = not behind_srp
starts behind_srp object = false

-- the objects before the first start
abbrev pub up_to_start : (behind_srp : Bool) → List Object → List Object
up_to_start behind_srp [] = []
up_to_start behind_srp (object ∷ objects) = if starts behind_srp object then [] else object ∷ up_to_start (is_srp object) objects

-- each start with the objects after it, up to the next start
abbrev pub items_in : (behind_srp : Bool) → List Object → List (List Object)
items_in behind_srp [] = []
items_in behind_srp (object ∷ objects) =
    if starts behind_srp object then (object ∷ up_to_start (is_srp object) objects) ∷ items_in (is_srp object) objects
    else items_in (is_srp object) objects
