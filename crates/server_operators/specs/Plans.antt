-- What reading the file of a network's link text again gives.
use Rattle.std.specs.Prelude.{◌≡◌, ◌⊎◌, ℕ, ◌+◌, List, [], ◌∷◌, Result, Ok, Err, ⊤, if◌then◌else◌}
use Rattle.std.specs.Str.{is_utf8}
use Rattle.te_base.specs.declared.fault.TeFault.{TeFault}
use Rattle.te_base.specs.declared.fault.TeFault.TheVariants.{NotToml, OutOfMemory}
use Rattle.te_base.specs.Faults.{◌>>=◌}
use Rattle.te_base.specs.Reload.{reloaded}
use Rattle.te_base.specs.Ted.{Ted}
use Rattle.te_base.specs.Values.{Values}
use Rattle.link_reload.specs.declared.entry.LinkReload.{LinkReload}
use Rattle.server_talk.specs.declared.plan.PlanFault.{PlanFault}
use Rattle.server_talk.specs.declared.plan.PlanFault.TheVariants.{Device, Te}

-- each link with its values, by their order, from this number on
abbrev pub numbered : ℕ → List Values → List LinkReload
numbered link [] = []
numbered link (v ∷ values) = record { link = link; values = v } ∷ numbered (link + 1) values

abbrev pub in_order : List Values → Result (List LinkReload) TeFault
in_order values = Ok (numbered 0 values)

abbrev pub links_of : Ted → List ℕ → Result (List LinkReload) TeFault
links_of te text = reloaded te text >>= in_order

-- the values that these bytes give all links of the network, or the first fault of their text
abbrev pub links_in : Ted → List ℕ → Result (List LinkReload) TeFault
links_in te bytes = if is_utf8 bytes then links_of te bytes else Err NotToml

-- A reading of the file: it can't be read, memory ran out, or it holds these bytes.
abbrev pub ReadsFile : Ted → Result (List LinkReload) PlanFault → Type 0
ReadsFile te (Err Device) = ⊤
ReadsFile te (Err (Te fault)) = (fault ≡ OutOfMemory) ⊎ ((bytes : List ℕ) × (links_in te bytes ≡ Err fault))
ReadsFile te (Ok links) = (bytes : List ℕ) × (links_in te bytes ≡ Ok links)
