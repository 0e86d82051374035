-- Nodes and owners as maps hold them, under their names and addresses.
use Rattle.std.proofs.Common.{◌≡◌, ℕ, suc, ◌+◌, ◌==◌, nat_eq, nat_lt, Bool, cond, not, List, [], ◌∷◌, ◌++◌, length, map, position, Option, None, Some, option_map, find, refl, ap, ◌∙◌}
use Rattle.std.specs.Cmp.{nat_eq_equiv}
use Rattle.std.specs.Map.{keys_of, lookup, values_of}
use Rattle.std.specs.List.{position_or_len}
use Rattle.std.proofs.lemmas.List.{map-append}
use Rattle.te_base.specs.declared.network.Owner.{Owner}
use Rattle.te_base.specs.Owners.{owner_of}
use Rattle.te_base.specs.Entries.{AreKeyed}

module _ {K X A : Type 0} (t : K → Bool) (u : A → Bool) (f : K × X → A) (same : (e : K × X) → t e.0 ≡ u (f e)) where
  places : (es : List (K × X)) → position_or_len t (keys_of es) ≡ position_or_len u (map f es)
  places [] = refl
  places (e ∷ es) = λ j. cond (not (same e j)) (1 + places es j) 0

  sizes : (es : List (K × X)) → length (keys_of es) ≡ length (map f es)
  sizes [] = refl
  sizes (e ∷ es) = ap suc (sizes es)

  -- the place of a key is the place of what its entry stands for
  pub position_under : (es : List (K × X)) → position t (keys_of es) ≡ position u (map f es)
  position_under es = λ j. cond (nat_lt (places es j) (sizes es j)) (Some (places es j)) None

pub owner_found : (address : ℕ) (es : List (ℕ × Owner)) → AreKeyed es → option_map (λ o. o.node) (lookup (nat_eq address) es) ≡ owner_of (values_of es) address
owner_found address es h = ap (option_map (λ (o : Owner). o.node)) (go es h)
  where
    same : (e : ℕ × Owner) → e.0 ≡ e.1.address → nat_eq address e.0 ≡ (e.1.address == address)
    same e is = ap (nat_eq address) is ∙ nat_eq_equiv.symm address e.1.address

    go : (es : List (ℕ × Owner)) → AreKeyed es → lookup (nat_eq address) es ≡ find (λ o. o.address == address) (values_of es)
    go [] h = refl
    go (e ∷ es) h = λ j. cond (same e h.0 j) (Some e.1) (go es h.1 j)

none_of : (o : Option Owner) → option_map (λ o. o.node) o ≡ None → o ≡ None
none_of None is = refl
none_of (Some x) is = absurd cc

pub owner_missing : (address : ℕ) (es : List (ℕ × Owner)) → AreKeyed es → owner_of (values_of es) address ≡ None → lookup (nat_eq address) es ≡ None
owner_missing address es h is = none_of _ (owner_found address es h ∙ is)

-- one more owner, under its address
pub keyed_more : (es : List (ℕ × Owner)) (o : Owner) → AreKeyed es → AreKeyed (es ++ (o.address, o) ∷ [])
keyed_more [] o h = (refl, tt)
keyed_more (e ∷ es) o h = (h.0, keyed_more es o h.1)

pub values_more : {K X : Type 0} (es : List (K × X)) (k : K) (x : X) → values_of (es ++ (k, x) ∷ []) ≡ values_of es ++ x ∷ []
values_more es k x = map-append (λ e. e.1) es ((k, x) ∷ [])
