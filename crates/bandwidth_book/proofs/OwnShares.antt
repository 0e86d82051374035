-- What a tunnel holds on each link, and what is found in the list of it.
use Rattle.std.proofs.Common.{◌≡◌, ◌≤◌, ◌<◌, ℕ, zero, suc, ◌+◌, ◌==◌, ◌||◌, ◌&&◌, nat_le, nat_lt, Bool, true, false, cond, List, [], ◌∷◌, ◌++◌, Some, None, map, filter, length, take, slice_get, slice_index, refl, sym, ap, ◌∙◌, arith, inl, inr, true≢false}
use Rattle.std.specs.Prelude.{find}
use Rattle.std.specs.List.{AllByRecursion, range_with_len}
use Rattle.std.proofs.lemmas.Bool.{cases_Bool, cases_eq}
use Rattle.std.proofs.lemmas.Bool.Decides.{nat_tests}
use Rattle.std.proofs.lemmas.List.{take_more}
use Rattle.std.proofs.lemmas.List.FromFn.{fill_by_all, filter_of_map_range_with_len_more, get_or-map-range_with_len}
use Rattle.lsp_base.specs.Shares.{priorities, share}
use Rattle.lsp_base.specs.declared.path.Path.{Path}
use Rattle.lsp_base.specs.declared.tunnel.Tunnel.{Tunnel}
use Rattle.te_snapshot.specs.declared.own.OwnShare.{OwnShare}
use Rattle.te_snapshot.specs.Own.{is_something, own_share_on, own_shares}
use Rattle.te_snapshot.specs.Room.{own_share, share_in}
use Rattle.bandwidth_book.specs.Reservation.{Reservation}
use Rattle.bandwidth_book.specs.declared.link_entries.LinkEntry.{LinkEntry}
use Rattle.bandwidth_book.specs.Reservation.{AreMaxima, most, times}
use Rattle.bandwidth_book.specs.Entries as entries
use Rattle.bandwidth_book.specs.Links.{AreRising, has_link, is_something_below, own_among}
use Rattle.bandwidth_book.specs.Paths.{IsHeldBy, held_by}
use Rattle.bandwidth_book.proofs.Counts.{most_same}
use Rattle.bandwidth_book.proofs.Rising.{number_self, numbers_apart}
use Rattle.bandwidth_book.proofs.Shares.{share_is_most}

-- the maxima of what the tunnel's paths hold are its shares
pub maxima_are_shares : (maxima : List ℕ) (hs : List Reservation) (paths : List Path) (t : Tunnel) (l : ℕ) → length maxima ≡ 8 → AreMaxima maxima hs
    → ((h : Reservation) → times h hs ≡ times h (held_by l t paths)) → maxima ≡ map (share paths t l) (priorities 0 7)
maxima_are_shares maxima hs paths t l long are same =
    fill_by_all (share paths t l) maxima 8 0 long (λ p less. are p less ∙ (most_same hs (held_by l t paths) p same ∙ sym (share_is_most paths t l p)))

-- one link more
pub own_next : (paths : List Path) (t : Tunnel) (n : ℕ) (held : OwnShare) → held ≡ own_share_on paths t n
    → own_shares paths t n ++ cond (is_something held) (held ∷ []) [] ≡ own_shares paths t (n + 1)
unfolding own_shares
own_next paths t n held e =
    ap (λ (h : OwnShare). own_shares paths t n ++ cond (is_something h) (h ∷ []) []) e
    ∙ sym (filter_of_map_range_with_len_more is_something (own_share_on paths t) 0 n n (omega arith))

-- ---- what is found

found : (f : ℕ → OwnShare) (p : OwnShare → Bool) → ((k : ℕ) → (f k).link ≡ k) → (l : ℕ) → p (f l) ≡ true → (a n : ℕ) → a ≤ l → l < a + n
    → find (λ held. held.link == l) (filter p (map f (range_with_len a n))) ≡ Some (f l)
found f p links l here a zero low high = absurd (omega (arith, low, high))
found f p links l here a (suc n) low high =
    elim (cases_eq a l) [
      | inl same ↦ (
          let passes : p (f a) ≡ true = ap (λ k. p (f k)) same ∙ here in
          let is_it : ((f a).link == l) ≡ true = number_self (f a).link l (links a ∙ same) in
          rw (passes, is_it) (ap (λ k. Some (f k)) same))
      | inr other ↦ (
          let rest = found f p links l here (a + 1) n (omega (arith, low, other)) (omega (arith, high)) in
          let not_it : ((f a).link == l) ≡ false = numbers_apart (f a).link l (λ e. other (sym (links a) ∙ e)) in
          elim (cases_Bool (p (f a))) [
            | inl passes ↦ rw (passes, not_it) rest
            | inr fails ↦ rw fails rest
          ])
    ]

none_found : (f : ℕ → OwnShare) (p : OwnShare → Bool) → ((k : ℕ) → (f k).link ≡ k) → (l : ℕ) → p (f l) ≡ false → (a n : ℕ)
    → find (λ held. held.link == l) (filter p (map f (range_with_len a n))) ≡ None
none_found f p links l gone a zero = refl
none_found f p links l gone a (suc n) =
    let rest = none_found f p links l gone (a + 1) n in
    elim (cases_eq a l) [
      | inl same ↦ (let fails : p (f a) ≡ false = ap (λ k. p (f k)) same ∙ gone in rw fails rest)
      | inr other ↦ (
          let not_it : ((f a).link == l) ≡ false = numbers_apart (f a).link l (λ e. other (sym (links a) ∙ e)) in
          elim (cases_Bool (p (f a))) [
            | inl passes ↦ rw (passes, not_it) rest
            | inr fails ↦ rw fails rest
          ])
    ]

-- a worse priority holds no less
most_more : (hs : List Reservation) (p q : ℕ) → p ≤ q → most hs p ≤ most hs q
most_more [] p q h = omega arith
most_more (x ∷ hs) p q h =
    let ih = most_more hs p q h in
    elim (cases_Bool (nat_le x.hold p)) [
      | inl low ↦ (let low2 : nat_le x.hold q ≡ true = grind (arith, nat_tests) in rw (low, low2) (omega (arith, ih)))
      | inr high ↦ rw high (omega (arith, ih))
    ]

-- the list says of each link what the tunnel reserves there
pub own_share_is : (paths : List Path) (t : Tunnel) (count l p : ℕ) → l < count → p < 8 → own_share (own_shares paths t count) l p ≡ share paths t l p
unfolding own_shares
own_share_is paths t count l p less small =
    let at_priority : (q : ℕ) → q < 8 → slice_index (own_share_on paths t l).shares q ≡ share paths t l q = (λ q h. get_or-map-range_with_len (share paths t l) 0 8 q q 0 h (omega arith)) in
    elim (cases_Bool (is_something (own_share_on paths t l))) [
      | inl here ↦ (
          let e = found (own_share_on paths t) is_something (λ k. refl) l here 0 count (omega arith) (omega (arith, less)) in
          ap (λ o. share_in o p) e ∙ at_priority p small)
      | inr gone ↦ (
          let e = none_found (own_share_on paths t) is_something (λ k. refl) l gone 0 count in
          let last = at_priority 7 (omega arith) in
          let none : slice_index (own_share_on paths t l).shares 7 ≡ 0 = grind (arith, nat_tests) in
          let m = most_more (held_by l t paths) p 7 (omega (arith, small)) in
          let s = share_is_most paths t l p in
          let s7 = share_is_most paths t l 7 in
          ap (λ o. share_in o p) e ∙ omega (arith, last, none, m, s, s7))
    ]

-- a tunnel that holds nothing on a link reserves nothing there
pub nothing_there : (paths : List Path) (t : Tunnel) (l : ℕ) (hs : List Reservation) → hs ≡ [] → ((h : Reservation) → times h hs ≡ times h (held_by l t paths)) → is_something (own_share_on paths t l) ≡ false
nothing_there paths t l hs none same =
    let last : slice_index (own_share_on paths t l).shares 7 ≡ share paths t l 7 = get_or-map-range_with_len (share paths t l) 0 8 7 7 0 (omega arith) (omega arith) in
    let here : most hs 7 ≡ 0 = ap (λ xs. most xs 7) none in
    let m = most_same hs (held_by l t paths) 7 same in
    let s = share_is_most paths t l 7 in
    let zero : slice_index (own_share_on paths t l).shares 7 ≡ 0 = omega (arith, last, here, m, s) in
    grind (arith, nat_tests)

-- ---- what is looked up

list_parts : {A B : Type 0} (p : B → Bool) (f : A → B) (xs : List A) (x : A) → filter p (map f (xs ++ x ∷ [])) ≡ filter p (map f xs) ++ filter p (map f (x ∷ []))
list_parts p f [] x = refl
list_parts p f (y ∷ ys) x =
    let rest = list_parts p f ys x in
    elim (cases_Bool (p (f y))) [
      | inl passes ↦ rw passes (ap (λ zs. f y ∷ zs) rest)
      | inr fails ↦ rw fails rest
    ]

-- one more of the links
pub among_next : (paths : List Path) (t : Tunnel) (n : ℕ) (links : List ℕ) (i : ℕ) → i < length links
    → own_among paths t n (take i links) ++ own_among paths t n (slice_index links i ∷ []) ≡ own_among paths t n (take (i + 1) links)
among_next paths t n links i h =
    sym (list_parts (is_something_below n) (own_share_on paths t) (take i links) (slice_index links i)) ∙ ap (own_among paths t n) (sym (take_more links i 0 h))

all_above : (a x : ℕ) (xs : List ℕ) → a < x → AllByRecursion (λ y. x < y) xs → AllByRecursion (λ y. a < y) xs
all_above a x [] h all = tt
all_above a x (y ∷ ys) h all = (let less = all.0 in omega (arith, less, h), all_above a x ys h all.1)

none_below : (a : ℕ) (xs : List ℕ) → AllByRecursion (λ y. a < y) xs → has_link a xs ≡ false
none_below a [] all = refl
none_below a (x ∷ xs) all = let less = all.0 in let e = numbers_apart x a (λ s. absurd (omega (arith, less, s))) in rw e (none_below a xs all.1)

module _ (f : ℕ → OwnShare) (p q : OwnShare → Bool) where
  none_kept : (links : List ℕ) (a : ℕ) → AllByRecursion (λ l. a ≤ l) links → ((l : ℕ) → a ≤ l → q (f l) ≡ false) → filter q (map f links) ≡ []
  none_kept [] a above fails = refl
  none_kept (x ∷ xs) a above fails = let e = fails x above.0 in rw e (none_kept xs a above.1 fails)

  above_next : (x a : ℕ) (xs : List ℕ) → a ≤ x → AllByRecursion (λ y. x < y) xs → AllByRecursion (λ y. a + 1 ≤ y) xs
  above_next x a [] h all = tt
  above_next x a (y ∷ ys) h all = (let less = all.0 in omega (arith, less, h), above_next x a ys h all.1)

  -- of a range of numbers, only those in the rising list pass
  only_listed : (links : List ℕ) (a n : ℕ) → AreRising links → AllByRecursion (λ l. a ≤ l) links → ((l : ℕ) → l < a + n → q (f l) ≡ p (f l)) → ((l : ℕ) → a + n ≤ l → q (f l) ≡ false)
      → ((l : ℕ) → a ≤ l → l < a + n → has_link l links ≡ false → p (f l) ≡ false) → filter q (map f links) ≡ filter p (map f (range_with_len a n))
  only_listed links a zero rising above agree beyond unlisted = none_kept links a above (λ l h. beyond l (omega (arith, h)))
  only_listed [] a (suc n) rising above agree beyond unlisted =
      let fails = unlisted a (omega arith) (omega arith) refl in
      rw fails (only_listed [] (a + 1) n tt tt (λ l h. agree l (omega (arith, h))) (λ l h. beyond l (omega (arith, h))) (λ l low high none. unlisted l (omega (arith, low)) (omega (arith, high)) none))
  only_listed (x ∷ xs) a (suc n) rising above agree beyond unlisted =
      elim (cases_eq x a) [
        | inl is ↦ (
            let rest = only_listed xs (a + 1) n rising.1 (above_next x a xs above.0 rising.0) (λ l h. agree l (omega (arith, h))) (λ l h. beyond l (omega (arith, h)))
            (λ l low high none. unlisted l (omega (arith, low)) (omega (arith, high)) (ap (λ b. b || has_link l xs) (numbers_apart x l (λ e. absurd (omega (arith, e, is, low)))) ∙ none)) in
            let here : q (f x) ≡ p (f a) = ap (λ (k : ℕ). q (f k)) is ∙ agree a (omega arith) in
            elim (cases_Bool (p (f a))) [
              | inl passes ↦ (let e = here ∙ passes in rw (e, passes) (ap (λ (k : ℕ). f k ∷ filter q (map f xs)) is ∙ ap (λ zs. f a ∷ zs) rest))
              | inr fails ↦ (let e = here ∙ fails in rw (e, fails) rest)
            ])
        | inr other ↦ (
            let low = above.0 in
            let less : a < x = omega (arith, low, other) in
            let all = all_above a x xs less rising.0 in
            let fails = unlisted a (omega arith) (omega arith) (none_below a (x ∷ xs) (less, all)) in
            rw fails (only_listed (x ∷ xs) (a + 1) n rising ((omega (arith, less)), above_next a a xs (omega arith) all) (λ l h. agree l (omega (arith, h))) (λ l h. beyond l (omega (arith, h)))
            (λ l least high none. unlisted l (omega (arith, least)) (omega (arith, high)) none)))
      ]

-- ---- the entries

all_links : (x : ℕ) (xs : List LinkEntry) → AllByRecursion (λ (y : LinkEntry). x < y.link) xs → AllByRecursion (λ y. x < y) (entries.links_with xs)
all_links x [] a = tt
all_links x (y ∷ ys) a = (a.0, all_links x ys a.1)

pub rising_links : (xs : List LinkEntry) → entries.AreRising xs → AreRising (entries.links_with xs)
rising_links [] r = tt
rising_links (x ∷ xs) r = (all_links x.link xs r.0, rising_links xs r.1)

link_at : (xs : List LinkEntry) (i : ℕ) (y : LinkEntry) → slice_get xs i ≡ Some y → (i < length (entries.links_with xs)) × (slice_index (entries.links_with xs) i ≡ y.link)
link_at [] i y h = absurd (cc)
link_at (x ∷ xs) zero y h = (omega arith, (let e : x ≡ y = cc in ap (λ (z : LinkEntry). z.link) e))
link_at (x ∷ xs) (suc i) y h = let ih = link_at xs i y h in (let less = ih.0 in omega (arith, less), ih.1)

-- one more link of the entries
pub among_next_entry : (paths : List Path) (t : Tunnel) (n : ℕ) (xs : List LinkEntry) (i : ℕ) (y : LinkEntry) → slice_get xs i ≡ Some y
    → own_among paths t n (take i (entries.links_with xs)) ++ own_among paths t n (y.link ∷ []) ≡ own_among paths t n (take (i + 1) (entries.links_with xs))
among_next_entry paths t n xs i y h =
    let there = link_at xs i y h in
    ap (λ (l : ℕ). own_among paths t n (take i (entries.links_with xs)) ++ own_among paths t n (l ∷ [])) (sym there.1) ∙ among_next paths t n (entries.links_with xs) i there.0

-- a link that isn't listed has no entry
pub unlisted : (l : ℕ) (xs : List LinkEntry) → has_link l (entries.links_with xs) ≡ false → entries.entry_on l xs ≡ None
unlisted l [] e = refl
unlisted l (x ∷ xs) e =
    elim (cases_Bool (x.link == l)) [
      | inl here ↦ absurd (let no : true ≡ false = rw here at e in true≢false no)
      | inr other ↦ (let rest : has_link l (entries.links_with xs) ≡ false = rw other at e in rw other (unlisted l xs rest))
    ]

-- the links without an entry of the tunnel list nothing
pub own_listed : (held : ℕ → Tunnel → List Reservation) (count : ℕ) (links : List ℕ) (t : Tunnel) → ((l : ℕ) → has_link l links ≡ false → held l t ≡ []) → AreRising links
    → (paths : List Path) → IsHeldBy count held paths → own_among paths t count links ≡ own_shares paths t count
unfolding own_shares
own_listed held count links t gone rising paths same =
    only_listed (own_share_on paths t) is_something (is_something_below count) links 0 count rising (from_zero links)
    (λ l less. below l (is_something (own_share_on paths t l)) (omega (arith, less))) (λ l past. beyond l (is_something (own_share_on paths t l)) (omega (arith, past)))
    (λ l low high none. nothing_there paths t l (held l t) (gone l none) (λ k. same l t k (omega (arith, high))))
  where
    from_zero : (xs : List ℕ) → AllByRecursion (λ l. 0 ≤ l) xs
    from_zero [] = tt
    from_zero (x ∷ xs) = (omega arith, from_zero xs)

    below : (l : ℕ) (b : Bool) → l < count → (nat_lt l count && b) ≡ b
    below l b less = let e : nat_lt l count ≡ true = grind (arith, nat_tests) in ap (λ a. a && b) e

    beyond : (l : ℕ) (b : Bool) → count ≤ l → (nat_lt l count && b) ≡ false
    beyond l b past = let e : nat_lt l count ≡ false = grind (arith, nat_tests) in ap (λ a. a && b) e
