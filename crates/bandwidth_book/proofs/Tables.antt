-- Tables of what is left of links.
use Rattle.std.proofs.Common.{◌≡◌, ◌<◌, ◌==◌, ◌-ℤ◌, ℕ, Bool, List, [], ◌∷◌, true, false, length, map, refl, sym, ap, arith, ◌∙◌, Result, Ok, Err, IfOk, inl, inr, true≢false, slice_index, All}
use Rattle.std.specs.Prelude.{ℤ, pos, slice_index_or, if◌then◌else◌}
use Rattle.std.specs.List.{IsDistinct}
use Rattle.std.specs.Map.{keys_of}
use Rattle.std.proofs.Math.Path.{fun_ext}
use Rattle.std.proofs.lemmas.Bool.{cases_Bool, eqb-true}
use Rattle.std.proofs.lemmas.List.Elements.{All-head, All-tail}
use Rattle.std.proofs.lemmas.List.FromFn.{fill_by_all, get_or-map-range_with_len}
use Rattle.std.proofs.lemmas.Option.{slice_get-get_or}
use Rattle.lsp_base.specs.Shares.{priorities, reservable, unreserved}
use Rattle.lsp_base.specs.declared.path.Path.{Path}
use Rattle.lsp_base.specs.declared.tunnel.Tunnel.{Tunnel}
use Rattle.te_base.specs.Values.{Values, set_values}
use Rattle.te_base.specs.declared.network.Link.{Link}
use Rattle.te_snapshot.specs.Left.{all_left, left_on}
use Rattle.te_snapshot.specs.Network.{Network, NetworkState}
use Rattle.te_snapshot.specs.Pages.{is_marked, left_beside, row}
use Rattle.te_snapshot.specs.declared.marks.Marks.{Marks}
use Rattle.bandwidth_book.specs.Reservation.{Reservation, times, with_all, without_all}
use Rattle.bandwidth_book.specs.Entries.{held_in}
use Rattle.bandwidth_book.specs.Paths.{held_by}
use Rattle.bandwidth_book.specs.Tables.{AreFresh, AreLeft, IsHeldOn, IsLeftOver, IsRowOf}
use Rattle.bandwidth_book.specs.Tunnels.{AreSums, entry_of, held_by_path, sum_at, sum_in, tunnel_eq}
use Rattle.bandwidth_book.specs.declared.link_entries.LinkEntry.{LinkEntry}
use Rattle.bandwidth_book.proofs.Reserved.{total_is_reserved}
use Rattle.bandwidth_book.proofs.Revalued.{left_stays}

-- ---- rows

-- what the sums leave of a link is what the paths leave
pub row_left : (sums : List (List ℕ)) (tunnels : List (Tunnel × List LinkEntry)) (links : List Link) (paths : List Path) (l : ℕ) → AreSums sums tunnels → IsDistinct tunnel_eq (keys_of tunnels) → l < length sums
    → ((t : Tunnel) (h : Reservation) → times h (held_in (entry_of tunnels l t)) ≡ times h (held_by l t paths)) → left_beside links sums l ≡ left_on links paths l
unfolding unreserved
row_left sums tunnels links paths l are distinct less s =
    fill_by_all (unreserved links paths l) (left_beside links sums l) 8 (pos 0) refl
    (λ p small.
    let there : sum_at sums l p ≡ slice_index (slice_index_or sums l []) p = ap (λ o. sum_in o p) (slice_get-get_or sums l [] less) in
    let summed = sym there ∙ are l p less small ∙ total_is_reserved tunnels paths l p distinct s in
    get_or-map-range_with_len (λ q. pos (reservable links l) -ℤ pos (slice_index (slice_index_or sums l []) q)) 0 8 p p (pos 0) small (omega arith)
    ∙ ap (λ n. pos (reservable links l) -ℤ pos n) summed)

-- if each row is right, the table is right
pub rows_are_left : (links : List Link) (paths : List Path) (table : List (List ℤ)) → length table ≡ length links → ((l : ℕ) → l < length links → row table l ≡ left_on links paths l) → table ≡ all_left links paths
unfolding all_left
rows_are_left links paths table long each = fill_by_all (left_on links paths) table (length links) [] long each

-- the table says of each link what is left of it
pub are_left : (links : List Link) (paths : List Path) → AreLeft links paths (all_left links paths)
unfolding all_left
are_left links paths l p less small =
    ap (λ (row : List ℤ). slice_index_or row p (pos 0)) (get_or-map-range_with_len (left_on links paths) 0 (length links) l l [] less (omega arith))
    ∙ get_or-map-range_with_len (unreserved links paths l) 0 8 p p (pos 0) small (omega arith)

-- if P holds of each value on success and Q follows from it, Q holds
pub if_ok : {A E : Type 0} (r : Result A E) (P Q : A → Type 0) → IfOk r P → ((x : A) → P x → Q x) → IfOk r Q
if_ok (Ok x) P Q h f = f x h
if_ok (Err e) P Q h f = h

-- the row of a table of which the marked rows were computed again
pub row_now : (links : List Link) (held : ℕ → Tunnel → List Reservation) (marks : Marks) (sums : List (List ℕ)) (table now : List (List ℤ)) (l : ℕ) → l < length links → AreFresh links held marks table
    → ((paths : List Path) → IsHeldOn (held l) l paths → left_beside links sums l ≡ left_on links paths l)
    → row now l ≡ (if is_marked marks l then left_beside links sums l else row table l) → IsRowOf links held l (row now l)
row_now links held marks sums table now l less fresh left is = λ paths s.
    elim (cases_Bool (is_marked marks l)) [
      | inl marked ↦ (let e : row now l ≡ left_beside links sums l = rw marked at is in e ∙ left paths s)
      | inr free ↦ (let e : row now l ≡ row table l = rw free at is in e ∙ fresh l less free paths s)
    ]

-- ---- rows that stay

-- a row that isn't marked after a change wasn't marked before it
pub was_free : (before after : Bool) → (before ≡ true → after ≡ true) → after ≡ false → before ≡ false
was_free true after kept free = absurd (true≢false (sym (kept refl) ∙ free))
was_free false after kept free = refl

-- a row stays right if as much is held on its link
pub row_stays : (links : List Link) (held now : ℕ → Tunnel → List Reservation) (l : ℕ) (r : List ℤ) → ((t : Tunnel) → now l t ≡ held l t) → IsRowOf links held l r → IsRowOf links now l r
row_stays links held now l r same is = λ paths s. is paths (λ t h. ap (times h) (sym (same t)) ∙ s t h)

-- a row stays right if another link gets other values
pub row_beside : (links : List Link) (n : ℕ) (v : Values) (held : ℕ → Tunnel → List Reservation) (l : ℕ) (r : List ℤ) → (n ≡ l → ⊥) → IsRowOf links held l r → IsRowOf (set_values links n v) held l r
row_beside links n v held l r apart is = λ paths s. is paths s ∙ ap (λ f. map f (priorities 0 7)) (fun_ext (λ p. sym (left_stays links n v paths l p apart)))

-- as much is held if nothing goes and nothing comes
pub held_as : (hs now dropped added : List Reservation) → now ≡ with_all (without_all hs dropped) added → dropped ≡ [] → added ≡ [] → now ≡ hs
held_as hs now dropped added is d a = is ∙ ap (λ xs. with_all (without_all hs dropped) xs) a ∙ ap (λ xs. without_all hs xs) d

-- if there are no paths, nothing is held
pub none_held : (l : ℕ) (t : Tunnel) (paths : List Path) → length paths ≡ 0 → held_by l t paths ≡ []
none_held l t [] none = refl
none_held l t (x ∷ xs) none = absurd (omega (arith, none))

-- a snapshot stays right if as much is held on each link
pub left_over_stays : (n : Network) (before after : ℕ) (held now : ℕ → Tunnel → List Reservation) (s : NetworkState) → after ≡ before → ((l : ℕ) (t : Tunnel) → l < before → now l t ≡ held l t) → IsLeftOver n before held s → IsLeftOver n after now s
left_over_stays n before after held now s same each is = record {
  network = is.network;
  left = λ paths h. is.left paths (λ l t x less. ap (times x) (sym (each l t less)) ∙ h l t x (omega (arith, less, same)));
}

path_none : (own t : Tunnel) (held : Reservation) (l : ℕ) (marks : Marks) (links : List ℕ) → All (λ k. is_marked marks k ≡ true) links → is_marked marks l ≡ false → held_by_path own held l t links ≡ []
path_none own t held l marks [] all free = refl
path_none own t held l marks (x ∷ xs) all free =
    let ih = path_none own t held l marks xs (All-tail (λ k. is_marked marks k ≡ true) x xs all) free in
    elim (cases_Bool (x == l)) [
      | inl here ↦ absurd (true≢false (sym (All-head (λ k. is_marked marks k ≡ true) x xs all) ∙ ap (λ k. is_marked marks k) (eqb-true x l here) ∙ free))
      | inr other ↦ rw other ih
    ]

-- paths whose links are all marked hold nothing on one that isn't
pub none_held_on : (t : Tunnel) (l : ℕ) (marks : Marks) (paths : List Path) → All (λ x. All (λ k. is_marked marks k ≡ true) x.links) paths → is_marked marks l ≡ false → held_by l t paths ≡ []
none_held_on t l marks [] all free = refl
none_held_on t l marks (x ∷ xs) all free =
    let ih = none_held_on t l marks xs (All-tail (λ y. All (λ k. is_marked marks k ≡ true) y.links) x xs all) free in
    let first = path_none x.tunnel t (record { hold = x.hold; bandwidth = x.bandwidth }) l marks x.links (All-head (λ y. All (λ k. is_marked marks k ≡ true) y.links) x xs all) free in
    rw (first, ih) refl
