use Rattle.std.proofs.Common.{◌≡◌, ◌≤◌, ◌∷◌, ℕ, Bool, true, List, [], Option, Some, None, length, position, slice_get, unwrap_or, sym, ◌∙◌, arith}
use Rattle.std.proofs.lemmas.Map.Made.{lookup_key_passes}
use Rattle.std.proofs.lemmas.Option.{none-some, slice_get_past}
use Rattle.std.specs.Map.{keys_of}
use Rattle.indexmap.proofs.MapLemmas.{Found-position}
use Rattle.bandwidth_book.specs.Tunnels.{tunnel_eq}
use Rattle.bandwidth_book.proofs.Same.{tunnel_eq_true}
use Rattle.bandwidth_book.proofs.tunnels.place_of.Goals as goal

module _ {K V : Type 0} (test : K → Bool) where
  past : (es : List (K × V)) → length (keys_of es) ≤ length es
  past [] = omega arith
  past (e ∷ es) = let ih = past es in omega (arith, ih)

  -- a key at the place of the first that passes passes, and there is none at the end
  at_place : (es : List (K × V)) (o : Option ℕ) (k : K) → o ≡ position test (keys_of es) → slice_get (keys_of es) (unwrap_or o (length es)) ≡ Some k → test k ≡ true
  at_place es None k is at = absurd (none-some k (sym (slice_get_past (keys_of es) (length es) (past es)) ∙ at))
  at_place es (Some i) k is at = lookup_key_passes test es k ((Found-position test es i (sym is)).key ∙ at)

pub returns-in_default-clause-key : goal.returns-in_default-clause-key
returns-in_default-clause-key c = λ t at.
    sym (tunnel_eq_true c.args.tunnel.now t (at_place (tunnel_eq c.args.tunnel.now) c.args.tunnels.now.entries c.get_index_of.result t c.get_index_of.ensures.index (rw (c.unwrap_or.ensures, c.len.ensures.len) at at)))
