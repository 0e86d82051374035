-- Tables of what is left of links.
use Rattle.std.proofs.Common.{◌≡◌, ◌<◌, ◌+◌, ℕ, List, [], ◌∷◌, ◌++◌, length, map, take, Some, ap, ◌∙◌, arith}
use Rattle.std.specs.Prelude.{ℤ, pos, slice_index_or}
use Rattle.std.specs.List.{range_with_len, slice_get}
use Rattle.std.proofs.lemmas.List.FromFn.{fill_by_all, length-map-range_with_len, map-range_with_len_more}
use Rattle.std.proofs.lemmas.List.{take_more}
use Rattle.std.proofs.lemmas.Option.{get_or_from_slice_get, slice_get_within}
use Rattle.lsp_base.specs.Shares.{unreserved}
use Rattle.lsp_base.specs.declared.path.Path.{Path}
use Rattle.te_base.specs.declared.network.Link.{Link}
use Rattle.te_snapshot.specs.Left.{all_left, left_on}

-- eight correct numbers are the row
pub row_is : (links : List Link) (paths : List Path) (l : ℕ) (row : List ℤ) → length row ≡ 8 → ((p : ℕ) → p < 8 → slice_index_or row p (pos 0) ≡ unreserved links paths l p) → row ≡ left_on links paths l
row_is links paths l row long each = fill_by_all (unreserved links paths l) row 8 (pos 0) long each

-- one link more
pub one_more_left : (links : List Link) (paths : List Path) (n : ℕ) → map (left_on links paths) (range_with_len 0 (n + 1)) ≡ map (left_on links paths) (range_with_len 0 n) ++ left_on links paths n ∷ []
one_more_left links paths n = map-range_with_len_more (left_on links paths) 0 n n (omega arith)

-- there are numbers for each link
pub all_left_length : (links : List Link) (paths : List Path) → length (all_left links paths) ≡ length links
unfolding all_left
all_left_length links paths = length-map-range_with_len (left_on links paths) 0 (length links)

-- one element more
pub take_next : {X : Type 0} (xs : List X) (n : ℕ) (x : X) → slice_get xs n ≡ Some x → take (n + 1) xs ≡ take n xs ++ x ∷ []
take_next xs n x at = take_more xs n x (slice_get_within xs n x at) ∙ ap (λ y. take n xs ++ y ∷ []) (get_or_from_slice_get xs n x x at)
