-- Rows of a list, one after the other.
use Rattle.std.proofs.Common.{◌≡◌, ◌∙◌, ℕ, suc, ◌+◌, ◌-◌, ◌<◌, ◌≤◌, min, Bool, true, false, cond, List, [], ◌∷◌, ◌++◌, map, reverse, length, get_or, take, drop, filter, String, string_bytes, refl, sym, ap, append_assoc, arith}
use Rattle.std.proofs.lemmas.List.{drop_more, map-append, reverse-append, take-map, take_min, take_more}
use Rattle.std.specs.List.{flat_map}
use Rattle.std.specs.declared.alloc.Global.{Global}
use Rattle.serde_json.specs.Data.{Data}
use Rattle.serde_json.specs.View.{items_of}
use Rattle.watch_board.specs.Boards.{list_of}

pub list-items : (ds : List Data) → list_of (items_of ds) ≡ ds
list-items [] = refl
list-items (d ∷ ds) = ap (λ (xs : List Data). d ∷ xs) (list-items ds)

-- the first ones, seen otherwise
pub first_ones : {X Y : Type 0} (f : X → Y) (xs : List X) (n most : ℕ) → n ≡ min (length xs) most → map f (take n xs) ≡ take most (map f xs)
first_ones f xs n most is =
    let least : n ≡ min most (length xs) = omega arith in
    ap (λ (k : ℕ). map f (take k xs)) least ∙ ap (map f) (take_min most xs) ∙ sym (take-map f most xs)

-- what is left at a place, from the front
pub front_left : {X Y : Type 0} (f : X → Y) (xs : List X) (i : ℕ) (x : X) → i < length xs → x ≡ get_or xs i x → map f (drop i xs) ≡ f x ∷ map f (drop (i + 1) xs)
front_left {X = X} f xs i x below is = ap (map f) (drop_more xs i x below ∙ ap (λ (y : X). y ∷ drop (i + 1) xs) (sym is))

-- what is left before a place, from the back
pub back_left : {X Y : Type 0} (f : X → Y) (xs : List X) (i : ℕ) (x : X) → i < length xs → x ≡ get_or xs i x → reverse (map f (take (i + 1) xs)) ≡ f x ∷ reverse (map f (take i xs))
back_left {X = X} f xs i x below is =
    ap (λ (ys : List X). reverse (map f ys)) (take_more xs i x below ∙ ap (λ (y : X). take i xs ++ (y ∷ [])) (sym is))
    ∙ ap reverse (map-append f (take i xs) (x ∷ [])) ∙ reverse-append (map f (take i xs)) (f x ∷ [])

module _ {Y : Type 0} (row : Y → List ℕ) (was new : String Global) where
  -- what is left to add once the first row of it was added
  pub next : (y : Y) (left rest : List Y) (all : List ℕ) → left ≡ y ∷ rest → string_bytes new ≡ string_bytes was ++ row y → string_bytes was ++ flat_map row left ≡ all → string_bytes new ++ flat_map row rest ≡ all
  next y left rest all is added known =
      ap (λ (t : List ℕ). t ++ flat_map row rest) added ∙ append_assoc (string_bytes was) (row y) (flat_map row rest)
      ∙ ap (λ (ys : List Y). string_bytes was ++ flat_map row ys) (sym is) ∙ known

  -- the same of the first ones that pass a test
  pub next_kept : (test : Y → Bool) (most count : ℕ) (y : Y) (left rest : List Y) (all : List ℕ) → left ≡ y ∷ rest → count < most → test y ≡ true → string_bytes new ≡ string_bytes was ++ row y
      → string_bytes was ++ flat_map row (take (most - count) (filter test left)) ≡ all → string_bytes new ++ flat_map row (take (most - (count + 1)) (filter test rest)) ≡ all
  next_kept test most count y left rest all is few passes added known =
      let one : most - count ≡ suc (most - (count + 1)) = omega arith in
      let kept : filter test left ≡ y ∷ filter test rest = ap (filter test) is ∙ ap (λ (b : Bool). cond b (y ∷ filter test rest) (filter test rest)) passes in
      next y (take (most - count) (filter test left)) (take (most - (count + 1)) (filter test rest)) all
      (ap (λ (n : ℕ). take n (filter test left)) one ∙ ap (take (suc (most - (count + 1)))) kept) added known

module _ {Y : Type 0} (row : Y → List ℕ) (test : Y → Bool) (most count : ℕ) (text : String Global) where
  -- none is added once there are enough
  pub enough : (left rest : List Y) (all : List ℕ) → most ≤ count
      → string_bytes text ++ flat_map row (take (most - count) (filter test left)) ≡ all → string_bytes text ++ flat_map row (take (most - count) (filter test rest)) ≡ all
  enough left rest all full known =
      let none : most - count ≡ 0 = omega arith in
      ap (λ (n : ℕ). string_bytes text ++ flat_map row (take n (filter test rest))) none ∙ ap (λ (n : ℕ). string_bytes text ++ flat_map row (take n (filter test left))) (sym none) ∙ known

  -- nor one that doesn't pass
  pub passed_over : (y : Y) (left rest : List Y) (all : List ℕ) → left ≡ y ∷ rest → test y ≡ false
      → string_bytes text ++ flat_map row (take (most - count) (filter test left)) ≡ all → string_bytes text ++ flat_map row (take (most - count) (filter test rest)) ≡ all
  passed_over y left rest all is fails known =
      let same : filter test left ≡ filter test rest = ap (filter test) is ∙ ap (λ (b : Bool). cond b (y ∷ filter test rest) (filter test rest)) fails in
      ap (λ (ys : List Y). string_bytes text ++ flat_map row (take (most - count) ys)) (sym same) ∙ known
