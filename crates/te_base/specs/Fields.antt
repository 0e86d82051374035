-- The fields of a link text's tables, of any value.
use Rattle.std.specs.Prelude.{ℕ, ℤ, ◌+◌, codes, List, [], ◌∷◌, Option, Some, None, Result, Ok, option_and_then}
use Rattle.toml.specs.Data.{Data, Items, no_items, item, Members, as_str, as_integer, as_array, as_table, get_member}
use Rattle.te_base.specs.declared.fault.FaultPlace.{FaultPlace}
use Rattle.te_base.specs.declared.fault.FaultPlace.TheVariants.{InArray, InTable}
use Rattle.te_base.specs.declared.fault.PlacedFault.{PlacedFault}
use Rattle.te_base.specs.declared.fault.TeFault.TheVariants.{MissingField}
use Rattle.te_base.specs.declared.keys.Key.{Key}
use Rattle.te_base.specs.declared.keys.Key.TheVariants.{Name, Id, From, To, Local, Remote, Igp, Te, Colour, Reservable}
use Rattle.te_base.specs.declared.keys.TableKind.{TableKind}
use Rattle.te_base.specs.declared.network.NodePlace.{NodePlace}
use Rattle.te_base.specs.Faults.{◌>>=◌, some_or}
use Rattle.te_base.specs.Keys.{key_word, kind_word}
use Rattle.te_base.specs.Places.{fault_at, fault_in}

pub record NodeText : Type 0 where
  pub name : List ℕ
  pub id : List ℕ
  pub place : Option NodePlace

pub record LinkText : Type 0 where
  pub from : List ℕ
  pub to : List ℕ
  pub local : List ℕ
  pub remote : List ℕ
  pub igp : ℤ
  pub te : ℤ
  pub colour : ℤ
  pub reservable : ℤ

-- A field that is absent, or of another kind, is missing.
abbrev pub text_at : FaultPlace → Key → Members → Result (List ℕ) PlacedFault
text_at at key t = some_or (fault_at at key MissingField) (option_and_then as_str (get_member (key_word key) t))

abbrev pub integer_at : List ℕ → Members → Option ℤ
integer_at key t = option_and_then as_integer (get_member key t)

abbrev pub number_at : FaultPlace → Key → Members → Result ℤ PlacedFault
number_at at key t = some_or (fault_at at key MissingField) (integer_at (key_word key) t)

-- two whole numbers are a place; a table may have none
abbrev pub place_of : Option ℤ → Option ℤ → Option NodePlace
place_of (Some x) (Some y) = Some (record { x = x; y = y })
place_of _ _ = None

abbrev pub drawn_at : Members → Option NodePlace
drawn_at t = place_of (integer_at (codes "x") t) (integer_at (codes "y") t)

unfoldable pub node_text : FaultPlace → Members → Result NodeText PlacedFault
node_text at t = do
  name ← text_at at Name t
  id ← text_at at Id t
  Ok (record { name = name; id = id; place = drawn_at t })

unfoldable pub link_text : FaultPlace → Members → Result LinkText PlacedFault
link_text at t = do
  from ← text_at at From t
  to ← text_at at To t
  near ← text_at at Local t
  far ← text_at at Remote t
  igp ← number_at at Igp t
  te ← number_at at Te t
  colour ← number_at at Colour t
  reservable ← number_at at Reservable t
  Ok (record { from = from; to = to; local = near; remote = far; igp = igp; te = te; colour = colour; reservable = reservable })

-- each item of an array must be a table; the first one has this number
abbrev pub tables_of : TableKind → ℕ → Items → Result (List Members) PlacedFault
tables_of kind number no_items = Ok []
tables_of kind number (item d more) = some_or (fault_in (InTable kind number) MissingField) (as_table d) >>= λ t. tables_of kind (number + 1) more >>= λ ts. Ok (t ∷ ts)

abbrev pub tables_in : TableKind → Option Data → Result (List Members) PlacedFault
tables_in kind None = Ok []
tables_in kind (Some d) = some_or (fault_in (InArray kind) MissingField) (as_array d) >>= tables_of kind 0

-- the tables of a kind; none if their key is absent
abbrev pub tables_at : TableKind → Members → Result (List Members) PlacedFault
tables_at kind t = tables_in kind (get_member (kind_word kind) t)
