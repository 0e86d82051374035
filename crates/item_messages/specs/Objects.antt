-- Objects that may be left out, and what an LSPA says that may be.
use Rattle.std.specs.Prelude.{ℕ, ◌==◌, ◌&&◌, not, Bool, List, [], ◌∷◌, ◌++◌, Option, Some, None, if◌then◌else◌}
use Rattle.pcep_word.specs.Priority.{InForce}
use Rattle.lsp_words.specs.declared.object.Colours.{Colours}
use Rattle.pcep_objects.specs.declared.object.Lspa.{Lspa}
use Rattle.pcep_objects.specs.declared.object.Object.{Object}
use Rattle.pcep_objects.specs.declared.object.Object.TheVariants as objects
use Rattle.pcep_objects.specs.declared.object.BandwidthType.TheVariants.{Requested}

abbrev pub if_any : {A : Type 0} → (A → Object) → Option A → List Object
if_any object None = []
if_any object (Some x) = object x ∷ []

-- what counts if there is no LSPA: both priorities are 7, no colour binds, and local protection isn't wanted
abbrev pub are_usual : InForce → Colours → Bool → Bool
are_usual priorities colours protected =
    priorities.setup == 7 && priorities.hold == 7 && colours.exclude_any == 0 && colours.include_any == 0 && colours.include_all == 0 && not protected

abbrev pub lspa_of : InForce → Colours → Bool → Option Lspa
lspa_of priorities colours protected =
    if are_usual priorities colours protected then None
    else Some (record { colours = colours; setup = priorities.setup; hold = priorities.hold; local_protection = protected })

-- 0 is what counts if there is no BANDWIDTH
abbrev pub bandwidth_of : ℕ → Option ℕ
bandwidth_of bandwidth = if bandwidth == 0 then None else Some bandwidth

-- an LSPA and a BANDWIDTH that is asked for, each if it says something
abbrev pub wish_objects : InForce → Colours → Bool → ℕ → List Object
wish_objects priorities colours protected bandwidth =
    if_any (λ lspa. objects.Lspa lspa) (lspa_of priorities colours protected) ++ if_any (λ b. objects.Bandwidth Requested b) (bandwidth_of bandwidth)
