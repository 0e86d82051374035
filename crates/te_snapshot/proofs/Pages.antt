-- Rows in pages.
use Rattle.std.proofs.Common.{◌≡◌, ◌<◌, ◌≤◌, ◌+◌, ◌*◌, ◌/◌, ◌%◌, ℕ, zero, suc, List, [], ◌∷◌, ◌++◌, Option, Some, None, length, slice_get, subst, ap, arith, ◌∙◌}
use Rattle.std.proofs.Math.Nat.{div-add-mod}
use Rattle.std.proofs.lemmas.List.FromFn.{get_or-map-range_with_len, length-map-range_with_len}
use Rattle.std.proofs.lemmas.Nat.{div_below, mod_below}
use Rattle.std.proofs.lemmas.Option.{slice_get-get_or, slice_get_past}
use Rattle.std.specs.Prelude.{ℤ}
use Rattle.std.specs.declared.sync.Arc.{Arc}
use Rattle.std.specs.declared.alloc.Global.{Global}
use Rattle.te_snapshot.specs.Pages.{row, row_at, rows_of}

-- if P holds of each element, and of the new one at its place, it holds after a push
pub pushed_at : {A : Type 0} (P : ℕ → Option A → Type 0) (xs : List A) (x : A) → P (length xs) (Some x) → ((n : ℕ) → n < length xs → P n (slice_get xs n)) → (n : ℕ) → n < length xs + 1 → P n (slice_get (xs ++ x ∷ []) n)
pushed_at P [] x here f zero less = here
pushed_at P [] x here f (suc n) less = absurd (omega (arith, less))
pushed_at P (y ∷ xs) x here f zero less = f 0 (omega arith)
pushed_at P (y ∷ xs) x here f (suc n) less = pushed_at (λ m. P (suc m)) xs x here (λ m h. f (suc m) (omega (arith, h))) n (omega (arith, less))

-- each link has a page and a place on it
pub by_pages : (P : ℕ → ℕ → ℕ → Type 0) → ((page place : ℕ) → place < 64 → P page place (64 * page + place)) → (l : ℕ) → P (l / 64) (l % 64) l
by_pages P f l = subst (P (l / 64) (l % 64)) (div-add-mod l 64) (f (l / 64) (l % 64) (mod_below l 64 (omega arith)))

pub page_there : (l pages : ℕ) → l < 64 * pages → l / 64 < pages
page_there l pages less = div_below l 64 pages (omega arith) (omega (arith, less))

-- the row of a link
pub row_there : (count : ℕ) (pages : List (Arc (List (List ℤ)) Global)) (l : ℕ) → l < count → row (rows_of count pages) l ≡ row_at pages l
row_there count pages l less = get_or-map-range_with_len (row_at pages) 0 count l l [] less (omega arith)

pub row_got : (count : ℕ) (pages : List (Arc (List (List ℤ)) Global)) (l : ℕ) → l < count → slice_get (rows_of count pages) l ≡ Some (row_at pages l)
row_got count pages l less =
    let long = length-map-range_with_len (row_at pages) 0 count in
    slice_get-get_or (rows_of count pages) l [] (omega (arith, long, less)) ∙ ap Some (row_there count pages l less)

pub row_missing : (count : ℕ) (pages : List (Arc (List (List ℤ)) Global)) (l : ℕ) → count ≤ l → slice_get (rows_of count pages) l ≡ None
row_missing count pages l past =
    let long = length-map-range_with_len (row_at pages) 0 count in
    slice_get_past (rows_of count pages) l (omega (arith, long, past))
