-- Laws of dotted addresses: a text is an address's text exactly if it is read as that address.
use Rattle.std.proofs.Common.{◌≡◌, ◌≢◌, ℕ, suc, Bool, true, false, Option, Some, None, IfSome, option_map, option_and_then, List, [], ◌∷◌, ◌++◌, length, get_or, ◌+◌, ◌-◌, ◌*◌, ◌/◌, ◌%◌, ◌^◌, ◌<◌, ◌≤◌, eqb, leb, cond, ◌&&◌, inl, inr, refl, sym, ap, ◌∙◌, arith}
use Rattle.std.proofs.lemmas.Bool.{cases_lt, eqb-true, ne_eqb, le-leb, leb-true, and_parts}
use Rattle.std.proofs.lemmas.Fmt.{decimal_digit, decimal_step}
use Rattle.std.specs.Fmt.{decimal}
use Rattle.std.specs.Int.{byte_at}
use Rattle.byteorder.specs.Endian.{big_bytes, big_number}
use Rattle.pcep_word.specs.Address.{text_of, address_of, octet_of, cut, is_digit, is_leading}

-- ---- one number

pub one_digit : (n : ℕ) → n < 10 → decimal n ≡ (48 + n) ∷ []
one_digit n h = decimal_digit n h

pub two_digits : (n : ℕ) → 10 ≤ n → n < 100 → decimal n ≡ (48 + n / 10) ∷ (48 + n % 10) ∷ []
two_digits n low high = decimal_step n low (omega arith) ∙ ap (λ (p : List ℕ). p ++ ((48 + n % 10) ∷ [])) (one_digit (n / 10) (omega arith))

pub three_digits : (n : ℕ) → 100 ≤ n → n < 256 → decimal n ≡ (48 + n / 10 / 10) ∷ (48 + n / 10 % 10) ∷ (48 + n % 10) ∷ []
three_digits n low high = decimal_step n (omega arith) (omega arith) ∙ ap (λ (p : List ℕ). p ++ ((48 + n % 10) ∷ [])) (two_digits (n / 10) (omega arith) (omega arith))

digit_true : (b : ℕ) → 48 ≤ b → b ≤ 57 → is_digit b ≡ true
digit_true b low high = rw (le-leb 48 b low, le-leb b 57 high) refl

leading_true : (b : ℕ) → 49 ≤ b → b ≤ 57 → is_leading b ≡ true
leading_true b low high = rw (le-leb 49 b low, le-leb b 57 high) refl

one_again : (n : ℕ) → n < 10 → octet_of ((48 + n) ∷ []) ≡ Some n
unfolding octet_of
one_again n h = rw (digit_true (48 + n) (omega arith) (omega arith)) (ap Some (let e : 48 + n - 48 ≡ n = omega arith in e))

two_again : (n a b : ℕ) → a ≡ 48 + n / 10 → b ≡ 48 + n % 10 → 10 ≤ n → n < 100 → octet_of (a ∷ b ∷ []) ≡ Some n
unfolding octet_of
two_again n a b ea eb low high =
    rw (leading_true a (omega arith) (omega arith), digit_true b (omega arith) (omega arith)) (ap Some (let e : (a - 48) * 10 + (b - 48) ≡ n = omega arith in e))

three_again : (n a b c : ℕ) → a ≡ 48 + n / 10 / 10 → b ≡ 48 + n / 10 % 10 → c ≡ 48 + n % 10 → 100 ≤ n → n < 256 → octet_of (a ∷ b ∷ c ∷ []) ≡ Some n
unfolding octet_of
three_again n a b c ea eb ec low high =
    let e : (a - 48) * 100 + (b - 48) * 10 + (c - 48) ≡ n = omega arith in
    let fits : leb ((a - 48) * 100 + (b - 48) * 10 + (c - 48)) 255 ≡ true = le-leb _ _ (omega arith) in
    rw (leading_true a (omega arith) (omega arith), digit_true b (omega arith) (omega arith), digit_true c (omega arith) (omega arith), fits) (ap Some e)

pub octet_again : (n : ℕ) → n < 256 → octet_of (decimal n) ≡ Some n
octet_again n h =
    elim (cases_lt n 10) [
      | inl one ↦ ap octet_of (one_digit n one) ∙ one_again n one
      | inr more ↦ elim (cases_lt n 100) [
        | inl two ↦ ap octet_of (two_digits n more two) ∙ two_again n _ _ refl refl more two
        | inr three ↦ ap octet_of (three_digits n three h) ∙ three_again n _ _ _ refl refl refl three h
      ]
    ]

-- an octet's text, read back
pub record IsOctet (p : List ℕ) (n : ℕ) : Type 0 where
  pub small : n < 256
  pub text : p ≡ decimal n

digit_low : (b : ℕ) → is_digit b ≡ true → (48 ≤ b) × (b ≤ 57)
digit_low b e = let p = and_parts (leb 48 b) (leb b 57) e in (leb-true _ _ p.0, leb-true _ _ p.1)

leading_low : (b : ℕ) → is_leading b ≡ true → (49 ≤ b) × (b ≤ 57)
leading_low b e = let p = and_parts (leb 49 b) (leb b 57) e in (leb-true _ _ p.0, leb-true _ _ p.1)

-- if a test gave a value, the test held
given : {A : Type 0} (t : Bool) (x y : A) → cond t (Some x) None ≡ Some y → (t ≡ true) × (x ≡ y)
given true x y e = (refl, cc)
given false x y e = cc

one_is : (a n : ℕ) → octet_of (a ∷ []) ≡ Some n → IsOctet (a ∷ []) n
unfolding octet_of
one_is a n e =
    let g = given (is_digit a) (a - 48) n e in
    let d = digit_low a g.0 in
    let same : a ≡ 48 + n = omega (arith, d, g.1) in
    record { small = omega (arith, d, g.1); text = ap (λ (x : ℕ). x ∷ []) same ∙ sym (one_digit n (omega (arith, d, g.1))) }

two_is : (a b n : ℕ) → octet_of (a ∷ b ∷ []) ≡ Some n → IsOctet (a ∷ b ∷ []) n
unfolding octet_of
two_is a b n e =
    let g = given (is_leading a && is_digit b) ((a - 48) * 10 + (b - 48)) n e in
    let p = and_parts (is_leading a) (is_digit b) g.0 in
    let la = leading_low a p.0 in
    let db = digit_low b p.1 in
    let ea : a ≡ 48 + n / 10 = omega (arith, la, db, g.1) in
    let eb : b ≡ 48 + n % 10 = omega (arith, la, db, g.1) in
    let low : 10 ≤ n = omega (arith, la, db, g.1) in
    let high : n < 100 = omega (arith, la, db, g.1) in
    record { small = omega arith; text = rw (two_digits n low high, ← ea, ← eb) refl }

three_is : (a b c n : ℕ) → octet_of (a ∷ b ∷ c ∷ []) ≡ Some n → IsOctet (a ∷ b ∷ c ∷ []) n
unfolding octet_of
three_is a b c n e =
    let v = (a - 48) * 100 + (b - 48) * 10 + (c - 48) in
    let g = given (is_leading a && is_digit b && is_digit c && leb v 255) v n e in
    let p = and_parts (is_leading a && is_digit b && is_digit c) (leb v 255) g.0 in
    let q = and_parts (is_leading a && is_digit b) (is_digit c) p.0 in
    let r = and_parts (is_leading a) (is_digit b) q.0 in
    let la = leading_low a r.0 in
    let db = digit_low b r.1 in
    let dc = digit_low c q.1 in
    let le = leb-true v 255 p.1 in
    let ea : a ≡ 48 + n / 10 / 10 = omega (arith, la, db, dc, g.1) in
    let eb : b ≡ 48 + n / 10 % 10 = omega (arith, la, db, dc, g.1) in
    let ec : c ≡ 48 + n % 10 = omega (arith, la, db, dc, g.1) in
    let low : 100 ≤ n = omega (arith, la, db, dc, g.1) in
    let high : n < 256 = omega (arith, le, g.1) in
    record { small = high; text = rw (three_digits n low high, ← ea, ← eb, ← ec) refl }

none_is : {A : Type 0} (n : ℕ) → None ≡ Some n → A
none_is n e = cc

pub octet_is : (p : List ℕ) (n : ℕ) → octet_of p ≡ Some n → IsOctet p n
unfolding octet_of
octet_is [] n e = none_is n e
octet_is (a ∷ []) n e = one_is a n e
octet_is (a ∷ b ∷ []) n e = two_is a b n e
octet_is (a ∷ b ∷ c ∷ []) n e = three_is a b c n e
octet_is (a ∷ b ∷ c ∷ d ∷ p) n e = none_is n e

-- ---- cutting at a dot

abbrev pub NoDots : List ℕ → Type 0
NoDots [] = Unit {0}
NoDots (b ∷ p) = (b ≢ 46) × NoDots p

pub cut_at : (p rest : List ℕ) → NoDots p → cut (p ++ (46 ∷ rest)) ≡ Some (p, rest)
unfolding cut
cut_at [] rest plain = refl
cut_at (b ∷ p) rest plain = rw (ne_eqb b 46 plain.0, cut_at p rest plain.1) refl

pub cut_none : (p : List ℕ) → NoDots p → cut p ≡ None
unfolding cut
cut_none [] plain = refl
cut_none (b ∷ p) plain = rw (ne_eqb b 46 plain.0, cut_none p plain.1) refl

cons_is : (b : ℕ) (text p rest : List ℕ) (o : Option (List ℕ × List ℕ)) → ((q r : List ℕ) → o ≡ Some (q, r) → text ≡ q ++ (46 ∷ r)) → option_map {U = List ℕ × List ℕ} (λ (x : List ℕ × List ℕ). (b ∷ x.0, x.1)) o ≡ Some (p, rest) → b ∷ text ≡ p ++ (46 ∷ rest)
cons_is b text p rest None ih e = cc
cons_is b text p rest (Some x) ih e =
    let front : b ∷ x.0 ≡ p = ap (λ (o : Option (List ℕ × List ℕ)). elim o [ None ↦ [] | Some y ↦ y.0 ]) e in
    let back : x.1 ≡ rest = ap (λ (o : Option (List ℕ × List ℕ)). elim o [ None ↦ [] | Some y ↦ y.1 ]) e in
    rw (← front, ← back) (ap (λ (t : List ℕ). b ∷ t) (ih x.0 x.1 refl))

here_or : (t : Bool) (b : ℕ) (text p rest : List ℕ) → eqb b 46 ≡ t → ((q r : List ℕ) → cut text ≡ Some (q, r) → text ≡ q ++ (46 ∷ r)) → cond {A = Option (List ℕ × List ℕ)} t (Some ([], text)) (option_map {U = List ℕ × List ℕ} (λ (x : List ℕ × List ℕ). (b ∷ x.0, x.1)) (cut text)) ≡ Some (p, rest) → b ∷ text ≡ p ++ (46 ∷ rest)
here_or false b text p rest t ih e = cons_is b text p rest (cut text) ih e
here_or true b text p rest t ih e =
    let dot : b ≡ 46 = eqb-true b 46 t in
    let front : [] ≡ p = ap (λ (o : Option (List ℕ × List ℕ)). elim o [ None ↦ [] | Some y ↦ y.0 ]) e in
    let back : text ≡ rest = ap (λ (o : Option (List ℕ × List ℕ)). elim o [ None ↦ [] | Some y ↦ y.1 ]) e in
    rw (dot, ← front, ← back) refl

pub cut_is : (text p rest : List ℕ) → cut text ≡ Some (p, rest) → text ≡ p ++ (46 ∷ rest)
unfolding cut
cut_is [] p rest e = cc
cut_is (b ∷ text) p rest e = here_or (eqb b 46) b text p rest refl (cut_is text) e

-- if no byte of a list is a dot, the list has no dots
pub plain_from : (p : List ℕ) → ((i : ℕ) → i < length p → get_or p i 0 ≢ 46) → NoDots p
plain_from [] h = tt
plain_from (b ∷ p) h = (h 0 (omega arith), plain_from p (λ i lt. let k : suc i < length (b ∷ p) = omega arith in h (suc i) k))

pub octet_plain : (n : ℕ) → n < 256 → NoDots (decimal n)
octet_plain n h =
    elim (cases_lt n 10) [
      | inl one ↦ rw (one_digit n one) ((λ (e : 48 + n ≡ 46). omega arith), tt)
      | inr more ↦ elim (cases_lt n 100) [
        | inl two ↦ rw (two_digits n more two) ((λ (e : 48 + n / 10 ≡ 46). omega arith), ((λ (e : 48 + n % 10 ≡ 46). omega arith), tt))
        | inr three ↦ rw (three_digits n three h) ((λ (e : 48 + n / 10 / 10 ≡ 46). omega arith), ((λ (e : 48 + n / 10 % 10 ≡ 46). omega arith), ((λ (e : 48 + n % 10 ≡ 46). omega arith), tt)))
      ]
    ]

-- ---- the whole address

abbrev joined_by_dots : ℕ → ℕ → ℕ → ℕ → List ℕ
joined_by_dots a b c d = decimal a ++ (46 ∷ (decimal b ++ (46 ∷ (decimal c ++ (46 ∷ decimal d)))))

dotted_again : (a b c d : ℕ) → a < 256 → b < 256 → c < 256 → d < 256 → address_of (joined_by_dots a b c d) ≡ Some (big_number 4 (a ∷ b ∷ c ∷ d ∷ []))
unfolding address_of
dotted_again a b c d sa sb sc sd =
    let first = cut_at (decimal a) (decimal b ++ (46 ∷ (decimal c ++ (46 ∷ decimal d)))) (octet_plain a sa) in
    let second = cut_at (decimal b) (decimal c ++ (46 ∷ decimal d)) (octet_plain b sb) in
    let third = cut_at (decimal c) (decimal d) (octet_plain c sc) in
    rw (first, second, third, octet_again a sa, octet_again b sb, octet_again c sc, octet_again d sd) refl

pub text_again : (address : ℕ) → address < 2 ^ 32 → address_of (text_of address) ≡ Some address
unfolding text_of
text_again address small =
    dotted_again (byte_at 3 address) (byte_at 2 address) (byte_at 1 address) (byte_at 0 address) (omega arith) (omega arith) (omega arith) (omega arith)
    ∙ ap Some (let e : big_number 4 (big_bytes 4 address) ≡ address = omega arith in e)

bind_is : {A B : Type 0} (o : Option A) (f : A → Option B) (b : B) → option_and_then f o ≡ Some b → (a : A) × (o ≡ Some a) × (f a ≡ Some b)
bind_is None f b e = cc
bind_is (Some a) f b e = (a, refl, e)

some_is : {A : Type 0} (x y : A) → Some x ≡ Some y → x ≡ y
some_is x y e = cc

numbers_are : (a b c d n : ℕ) → a < 256 → b < 256 → c < 256 → d < 256 → big_number 4 (a ∷ b ∷ c ∷ d ∷ []) ≡ n → (n < 2 ^ 32) × (text_of n ≡ joined_by_dots a b c d)
unfolding text_of
numbers_are a b c d n sa sb sc sd e =
    let ea : byte_at 3 n ≡ a = omega arith in
    let eb : byte_at 2 n ≡ b = omega arith in
    let ec : byte_at 1 n ≡ c = omega arith in
    let ed : byte_at 0 n ≡ d = omega arith in
    (omega arith, rw (ea, eb, ec, ed) refl)

joined : (text p q r s t u : List ℕ) (a b c d : ℕ) → text ≡ p ++ (46 ∷ q) → q ≡ r ++ (46 ∷ s) → s ≡ t ++ (46 ∷ u) → p ≡ decimal a → r ≡ decimal b → t ≡ decimal c → u ≡ decimal d → text ≡ joined_by_dots a b c d
joined text p q r s t u a b c d one two three ea eb ec ed = one ∙ (rw (two, three, ea, eb, ec, ed) refl)

pub address_is : (text : List ℕ) (n : ℕ) → address_of text ≡ Some n → (n < 2 ^ 32) × (text ≡ text_of n)
unfolding address_of
address_is text n e =
    let first = bind_is (cut text) _ n e in
    let second = bind_is (cut first.0.1) _ n first.2 in
    let third = bind_is (cut second.0.1) _ n second.2 in
    let a = bind_is (octet_of first.0.0) _ n third.2 in
    let b = bind_is (octet_of second.0.0) _ n a.2 in
    let c = bind_is (octet_of third.0.0) _ n b.2 in
    let d = bind_is (octet_of third.0.1) _ n c.2 in
    let oa = octet_is first.0.0 a.0 a.1 in
    let ob = octet_is second.0.0 b.0 b.1 in
    let oc = octet_is third.0.0 c.0 c.1 in
    let od = octet_is third.0.1 d.0 d.1 in
    let t = numbers_are a.0 b.0 c.0 d.0 n oa.small ob.small oc.small od.small (some_is _ _ d.2) in
    let one = cut_is text first.0.0 first.0.1 first.1 in
    let two = cut_is first.0.1 second.0.0 second.0.1 second.1 in
    let three = cut_is second.0.1 third.0.0 third.0.1 third.1 in
    (t.0, joined text _ _ _ _ _ _ a.0 b.0 c.0 d.0 one two three oa.text ob.text oc.text od.text ∙ sym t.1)

pub spelled : (text : List ℕ) (o : Option ℕ) → o ≡ address_of text → IfSome o (λ a. text ≡ text_of a)
spelled text None e = tt
spelled text (Some a) e = (address_is text a (sym e)).1

pub every_text : (text : List ℕ) (o : Option ℕ) → o ≡ address_of text → (a : ℕ) → a < 2 ^ 32 → text ≡ text_of a → o ≡ Some a
every_text text o e a small same = e ∙ (rw same (text_again a small))
