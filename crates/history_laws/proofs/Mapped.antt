-- Lists of which each item is changed in a way that no test sees.
use Rattle.std.proofs.Common.{◌≡◌, ◌∙◌, ◌-◌, ◌||◌, Bool, true, false, cond, List, [], ◌∷◌, ◌++◌, length, map, filter, find, take, drop, refl, sym, ap}
use Rattle.std.specs.Prelude.{Option, Some, None, is_some, option_map}
use Rattle.std.specs.List.{list_any, flat_map}
use Rattle.std.proofs.lemmas.List.{map-append, length-map, take-map, drop-map}
use Rattle.std.proofs.lemmas.List.Concat.{flat_map-cons}
use Rattle.lsp_base.specs.Lsps.{last_in_front, without_first}
use Rattle.ticket_table.specs.Tickets.{edit_first, drop_first}

pub some-map : {X Y : Type 0} (f : X → Y) (o : Option X) → is_some (option_map f o) ≡ is_some o
some-map f None = refl
some-map f (Some x) = refl

-- a test gives the same for an item before and after the change
abbrev pub PassesBy : {X : Type 0} → (X → X) → (X → Bool) → Type 0
PassesBy {X} f p = (x : X) → p (f x) ≡ p x

pub find-map : {X : Type 0} (f : X → X) (p : X → Bool) → PassesBy f p → (xs : List X) → find p (map f xs) ≡ option_map f (find p xs)
find-map f p same [] = refl
find-map f p same (x ∷ xs) = ap (λ b. cond b (Some (f x)) (find p (map f xs))) (same x) ∙ by (p x) (find-map f p same xs)
  where
    by : (b : Bool) → find p (map f xs) ≡ option_map f (find p xs) → cond b (Some (f x)) (find p (map f xs)) ≡ option_map f (cond b (Some x) (find p xs))
    by true rest = refl
    by false rest = rest

pub filter-map : {X : Type 0} (f : X → X) (p : X → Bool) → PassesBy f p → (xs : List X) → filter p (map f xs) ≡ map f (filter p xs)
filter-map f p same [] = refl
filter-map f p same (x ∷ xs) = ap (λ b. cond b (f x ∷ filter p (map f xs)) (filter p (map f xs))) (same x) ∙ by (p x) (filter-map f p same xs)
  where
    by : (b : Bool) → filter p (map f xs) ≡ map f (filter p xs) → cond b (f x ∷ filter p (map f xs)) (filter p (map f xs)) ≡ map f (cond b (x ∷ filter p xs) (filter p xs))
    by true rest = ap (λ ys. f x ∷ ys) rest
    by false rest = rest

pub any-map : {X : Type 0} (f : X → X) (p : X → Bool) → PassesBy f p → (xs : List X) → list_any p (map f xs) ≡ list_any p xs
any-map f p same [] = refl
any-map f p same (x ∷ xs) = λ i. same x i || any-map f p same xs i

-- ---- the first that passes goes, or is edited

last-map : {X : Type 0} (f : X → X) (xs : List X) → last_in_front (map f xs) ≡ map f (last_in_front xs)
last-map f xs =
    let n = length xs - 1 in
    ap (λ k. drop (k - 1) (map f xs) ++ take (k - 1) (map f xs)) (length-map xs f) ∙ (λ i. drop-map f n xs i ++ take-map f n xs i) ∙ sym (map-append f (drop n xs) (take n xs))

pub without_first-map : {X : Type 0} (f : X → X) (p : X → Bool) → PassesBy f p → (xs : List X) → without_first p (map f xs) ≡ map f (without_first p xs)
without_first-map f p same [] = refl
without_first-map f p same (x ∷ xs) = ap (λ b. cond b (last_in_front (map f xs)) (f x ∷ without_first p (map f xs))) (same x) ∙ by (p x) (without_first-map f p same xs)
  where
    by : (b : Bool) → without_first p (map f xs) ≡ map f (without_first p xs) → cond b (last_in_front (map f xs)) (f x ∷ without_first p (map f xs)) ≡ map f (cond b (last_in_front xs) (x ∷ without_first p xs))
    by true rest = last-map f xs
    by false rest = ap (λ ys. f x ∷ ys) rest

pub drop_first-map : {X : Type 0} (f : X → X) (p : X → Bool) → PassesBy f p → (xs : List X) → drop_first p (map f xs) ≡ map f (drop_first p xs)
drop_first-map f p same [] = refl
drop_first-map f p same (x ∷ xs) = ap (λ b. cond b (map f xs) (f x ∷ drop_first p (map f xs))) (same x) ∙ by (p x) (drop_first-map f p same xs)
  where
    by : (b : Bool) → drop_first p (map f xs) ≡ map f (drop_first p xs) → cond b (map f xs) (f x ∷ drop_first p (map f xs)) ≡ map f (cond b xs (x ∷ drop_first p xs))
    by true rest = refl
    by false rest = ap (λ ys. f x ∷ ys) rest

pub edit_first-map : {X : Type 0} (f edit : X → X) (p : X → Bool) → ((x : X) → edit (f x) ≡ f (edit x)) → PassesBy f p → (xs : List X) → edit_first p edit (map f xs) ≡ map f (edit_first p edit xs)
edit_first-map f edit p edits same [] = refl
edit_first-map f edit p edits same (x ∷ xs) = ap (λ b. cond b (edit (f x) ∷ map f xs) (f x ∷ edit_first p edit (map f xs))) (same x) ∙ by (p x) (edit_first-map f edit p edits same xs)
  where
    by : (b : Bool) → edit_first p edit (map f xs) ≡ map f (edit_first p edit xs) → cond b (edit (f x) ∷ map f xs) (f x ∷ edit_first p edit (map f xs)) ≡ map f (cond b (edit x ∷ xs) (x ∷ edit_first p edit xs))
    by true rest = ap (λ y. y ∷ map f xs) (edits x)
    by false rest = ap (λ ys. f x ∷ ys) rest

-- ---- what is made of each item

pub made-map : {X Y : Type 0} (f : X → X) (g : Y → Y) (h : X → Y) → ((x : X) → h (f x) ≡ g (h x)) → (xs : List X) → map h (map f xs) ≡ map g (map h xs)
made-map f g h same [] = refl
made-map f g h same (x ∷ xs) = λ i. same x i ∷ made-map f g h same xs i

-- the same of the items that pass a test
pub chosen-map : {X Y : Type 0} (f : X → X) (g : Y → Y) (h : X → Y) (p : X → Bool) → ((x : X) → h (f x) ≡ g (h x)) → PassesBy f p → (xs : List X) → map h (filter p (map f xs)) ≡ map g (map h (filter p xs))
chosen-map f g h p made same xs = ap (map h) (filter-map f p same xs) ∙ made-map f g h made (filter p xs)

-- the same of lists that are made of each item
pub each-map : {X Y : Type 0} (g : Y → Y) (h k : X → List Y) → ((x : X) → k x ≡ map g (h x)) → (xs : List X) → flat_map k xs ≡ map g (flat_map h xs)
each-map g h k same [] = refl
each-map g h k same (x ∷ xs) =
    flat_map-cons k x xs ∙ (λ i. same x i ++ each-map g h k same xs i) ∙ sym (map-append g (h x) (flat_map h xs)) ∙ ap (map g) (sym (flat_map-cons h x xs))

-- if a change made twice is the same as made once, so is a list's
pub again-map : {X : Type 0} (f : X → X) → ((x : X) → f (f x) ≡ f x) → (xs : List X) → map f (map f xs) ≡ map f xs
again-map f same [] = refl
again-map f same (x ∷ xs) = λ i. same x i ∷ again-map f same xs i
