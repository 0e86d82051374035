-- The tables of an array, one after the other.
use Rattle.std.proofs.Common.{◌≡◌, ℕ, ◌+◌, ◌<◌, List, [], ◌∷◌, ◌++◌, length, get_or, drop, Some, None, Result, Ok, Err, refl, sym, ap, ◌∙◌, append_assoc}
use Rattle.toml.specs.Data.{Members, as_table}
use Rattle.toml.specs.View.{view, items_view}
use Rattle.toml.specs.declared.value.Value.{Value}
use Rattle.toml.proofs.Views.{items_view-drop}
use Rattle.te_base.specs.declared.fault.FaultPlace.TheVariants.{InTable}
use Rattle.te_base.specs.declared.fault.PlacedFault.{PlacedFault}
use Rattle.te_base.specs.declared.fault.TeFault.TheVariants.{MissingField}
use Rattle.te_base.specs.declared.keys.TableKind.{TableKind}
use Rattle.te_base.specs.Faults.{◌>>=◌}
use Rattle.te_base.specs.Fields.{tables_of}
use Rattle.te_base.specs.Places.{fault_in}

-- what was read before, and what is still read
abbrev pub with_front : List Members → Result (List Members) PlacedFault → Result (List Members) PlacedFault
with_front front given = given >>= λ ts. Ok (front ++ ts)

regroup : (front : List Members) (t : Members) (given : Result (List Members) PlacedFault) → with_front front (given >>= λ ts. Ok (t ∷ ts)) ≡ with_front (front ++ t ∷ []) given
regroup front t (Ok ts) = ap (λ (all : List Members). Ok all) (simp append_assoc)
regroup front t (Err f) = refl

-- one more table
pub goes_on : (kind : TableKind) (front : List Members) (vs : List Value) (i : ℕ) (d : Value) (t : Members) (total : Result (List Members) PlacedFault) → i < length vs → as_table (view (get_or vs i d)) ≡ Some t
    → with_front front (tables_of kind i (items_view (drop i vs))) ≡ total → with_front (front ++ t ∷ []) (tables_of kind (i + 1) (items_view (drop (i + 1) vs))) ≡ total
goes_on kind front vs i d t total lt is so_far =
    let one : with_front front (tables_of kind i (items_view (drop i vs))) ≡ with_front (front ++ t ∷ []) (tables_of kind (i + 1) (items_view (drop (i + 1) vs))) =
    rw (items_view-drop vs i d lt, is) (regroup front t (tables_of kind (i + 1) (items_view (drop (i + 1) vs)))) in
    sym one ∙ so_far

-- an item that is no table
pub stops : (kind : TableKind) (front : List Members) (vs : List Value) (i : ℕ) (d : Value) (total : Result (List Members) PlacedFault) → i < length vs → as_table (view (get_or vs i d)) ≡ None
    → with_front front (tables_of kind i (items_view (drop i vs))) ≡ total → total ≡ Err (fault_in (InTable kind i) MissingField)
stops kind front vs i d total lt is so_far =
    let one : with_front front (tables_of kind i (items_view (drop i vs))) ≡ Err (fault_in (InTable kind i) MissingField) = rw (items_view-drop vs i d lt, is) in
    sym so_far ∙ one
