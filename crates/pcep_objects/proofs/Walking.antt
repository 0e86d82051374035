-- Walking over TLVs one after the other passes those that the bytes are cut into.
use Rattle.std.proofs.Common.{◌≡◌, ℕ, zero, suc, ◌-◌, ◌+◌, ◌<◌, ◌≤◌, ◌⊎◌, inl, inr, Bool, true, false, ◌&&◌, ◌||◌, cond, ltb, eqb, List, [], ◌∷◌, length, take, drop, Option, Some, None, Result, Ok, Err, refl, sym, ap, ◌∙◌, arith}
use Rattle.std.proofs.lemmas.Bool.{and_parts, eq-eqb, eqb-true, ne_eqb, ltb-false}
use Rattle.std.proofs.lemmas.List.{take-take}
use Rattle.std.specs.Option.{option_or}
use Rattle.pcep_objects.specs.declared.fault.BodyFault.{BodyFault}
use Rattle.pcep_objects.specs.declared.fault.BodyFault.TheVariants.{BadTlv}
use Rattle.pcep_objects.specs.Steps.{◌>>=◌, field, cut}
use Rattle.pcep_objects.specs.Tlvs.{Tlv, padded, tlv_size, tlv_at, tlvs_in, skipped_tlvs, first_of, may_have, are_sized, first_sized, value_in, first_fitting, fitting_in}
use Rattle.pcep_objects.proofs.Cutting.{step}

-- the value that was found before, or else what is found now
abbrev pub or_found : Option (List ℕ) → Result (Option (List ℕ)) BodyFault → Result (Option (List ℕ)) BodyFault
or_found found r = r >>= λ value. Ok (option_or found value)

-- one TLV before these
abbrev pub behind : ℕ → List ℕ → Result (List Tlv) BodyFault → Result (List Tlv) BodyFault
behind number value tlvs = tlvs >>= λ more. Ok (record { number = number; value = value } ∷ more)

abbrev passed : Result (Unit {0}) BodyFault
passed = Ok tt

abbrev pub found_value : Option (List ℕ) → Result (Option (List ℕ)) BodyFault
found_value value = Ok value

abbrev verdict : Bool → Option (List ℕ) → Result (Option (List ℕ)) BodyFault
verdict sized value = cond sized (Ok value) (Err BadTlv)

-- ---- the first TLV

abbrev at : List ℕ → Result Tlv BodyFault
at tlv = Ok (tlv_at tlv)

front : (bytes : List ℕ) (m : ℕ) → 4 ≤ length bytes → field 2 2 bytes ≤ m → tlv_size bytes ≡ Ok (4 + m)
    → tlvs_in bytes ≡ behind (field 0 2 bytes) (take (field 2 2 bytes) (drop 4 bytes)) (tlvs_in (drop (4 + m) bytes))
unfolding tlvs_in
front [] m four small sized = absurd (omega arith)
front (a ∷ []) m four small sized = absurd (omega arith)
front (a ∷ b ∷ []) m four small sized = absurd (omega arith)
front (a ∷ b ∷ c ∷ []) m four small sized = absurd (omega arith)
front (a ∷ b ∷ c ∷ d ∷ rest) m four small sized =
    let bytes : List ℕ = a ∷ b ∷ c ∷ d ∷ rest in
    let more : 4 + m ≡ suc (suc (suc (suc m))) = omega arith in
    let piece : take (4 + m) bytes ≡ a ∷ b ∷ c ∷ d ∷ take m rest = rw more refl in
    let value : take (field 2 2 bytes) (take m rest) ≡ take (field 2 2 bytes) rest = take-take (field 2 2 bytes) m rest small in
    step tlv_size at bytes (4 + m) (omega arith) (omega arith) sized ∙ rw (piece, value) refl

ends : (bytes : List ℕ) → 0 < length bytes → tlv_size bytes ≡ Err BadTlv → tlvs_in bytes ≡ Err BadTlv
unfolding tlvs_in cut
ends [] some e = absurd (omega arith)
ends (b ∷ bytes) some e = rw e refl

cut_off : {A : Type 0} (s t : Bool) (m n : A) → cond (s || t) (Err BadTlv) (Ok m) ≡ Ok n → s ≡ false
cut_off true t m n e = cc
cut_off false t m n e = refl

long : (bytes : List ℕ) (n : ℕ) → tlv_size bytes ≡ Ok n → 4 ≤ length bytes
unfolding tlv_size
long bytes n e = ltb-false _ _ (cut_off (ltb (length bytes) 4) (ltb (length bytes) (4 + padded (field 2 2 bytes))) (4 + padded (field 2 2 bytes)) n e)

pub walked : (bytes after : List ℕ) (number : ℕ) (value : List ℕ) → tlv_size bytes ≡ Ok (4 + padded (field 2 2 bytes)) → number ≡ field 0 2 bytes
    → value ≡ take (field 2 2 bytes) (drop 4 bytes) → after ≡ drop (4 + padded (field 2 2 bytes)) bytes → tlvs_in bytes ≡ behind number value (tlvs_in after)
walked bytes after number value sized n v a =
    let m = padded (field 2 2 bytes) in
    let fits : field 2 2 bytes ≤ m = omega arith in
    rw (n, v, a) (front bytes m (long bytes (4 + m) sized) fits sized)

-- ---- no fault but BadTlv

is_bad : {A : Type 0} (t : Bool) (x : A) (e : BodyFault) → cond t (Err BadTlv) (Ok x) ≡ Err e → e ≡ BadTlv
is_bad true x e h = cc
is_bad false x e h = cc

size_bad : (bytes : List ℕ) (e : BodyFault) → tlv_size bytes ≡ Err e → e ≡ BadTlv
unfolding tlv_size
size_bad bytes e h = is_bad (ltb (length bytes) 4 || ltb (length bytes) (4 + padded (field 2 2 bytes))) (4 + padded (field 2 2 bytes)) e h

bound : {A B : Type 0} (r : Result A BodyFault) (f : A → Result B BodyFault) (e : BodyFault) → (r >>= f) ≡ Err e → (r ≡ Err e) ⊎ ((x : A) × (f x ≡ Err e))
bound (Ok x) f e h = inr (x, h)
bound (Err y) f e h = inl cc

cut_bad : (skip : ℕ) (bytes : List ℕ) (e : BodyFault) → cut tlv_size at skip bytes ≡ Err e → e ≡ BadTlv
unfolding cut
cut_bad skip [] e h = cc
cut_bad (suc skip) (b ∷ bytes) e h = cut_bad skip bytes e h
cut_bad zero (b ∷ bytes) e h =
    elim (bound (tlv_size (b ∷ bytes)) (λ (n : ℕ). at (take n (b ∷ bytes)) >>= λ x. cut tlv_size at (n - 1) bytes >>= λ xs. Ok (x ∷ xs)) e h) [
      | inl s ↦ size_bad (b ∷ bytes) e s
      | inr s ↦ elim (bound (cut tlv_size at (s.0 - 1) bytes) (λ (xs : List Tlv). Ok (tlv_at (take s.0 (b ∷ bytes)) ∷ xs)) e s.1) [
        | inl c ↦ cut_bad (s.0 - 1) bytes e c
        | inr c ↦ cc
      ]
    ]

tlvs_bad : (bytes : List ℕ) (e : BodyFault) → tlvs_in bytes ≡ Err e → e ≡ BadTlv
unfolding tlvs_in
tlvs_bad bytes e h = cut_bad 0 bytes e h

-- ---- TLVs that are skipped

past_one : (number : ℕ) (value : List ℕ) (r : Result (List Tlv) BodyFault) → (behind number value r >>= λ tlvs. passed) ≡ (r >>= λ tlvs. passed)
past_one number value (Ok tlvs) = refl
past_one number value (Err e) = refl

pub skips : (rest after : List ℕ) (number : ℕ) (value : List ℕ) (total : Result (Unit {0}) BodyFault) → tlvs_in rest ≡ behind number value (tlvs_in after) → skipped_tlvs rest ≡ total
    → skipped_tlvs after ≡ total
unfolding skipped_tlvs
skips rest after number value total h so_far = sym (ap (λ r. r >>= λ tlvs. passed) h ∙ past_one number value (tlvs_in after)) ∙ so_far

pub skip_ends : (rest : List ℕ) (total : Result (Unit {0}) BodyFault) → 0 < length rest → tlv_size rest ≡ Err BadTlv → skipped_tlvs rest ≡ total → total ≡ Err BadTlv
unfolding skipped_tlvs
skip_ends rest total some h so_far = sym so_far ∙ rw (ends rest some h) refl

pub skip_done : (rest : List ℕ) (total : Result (Unit {0}) BodyFault) → length rest ≡ 0 → skipped_tlvs rest ≡ total → total ≡ Ok tt
unfolding skipped_tlvs tlvs_in cut
skip_done [] total none so_far = sym so_far
skip_done (b ∷ bytes) total none so_far = absurd (omega arith)

-- ---- the first TLV of a type

passes : (number : ℕ) (size : Option ℕ) (other : ℕ) (value : List ℕ) (r : Result (List Tlv) BodyFault) → eqb other number ≡ false
    → (behind other value r >>= first_sized number size) ≡ (r >>= first_sized number size)
passes number size other value (Ok tlvs) e = rw e refl
passes number size other value (Err fault) e = refl

counted : (sized : Bool) (value : List ℕ) (more : Option (List ℕ)) → verdict sized (Some value) ≡ (verdict sized more >>= λ later. found_value (Some value))
counted true value more = refl
counted false value more = refl

counts : (number : ℕ) (size : Option ℕ) (value : List ℕ) (r : Result (List Tlv) BodyFault) → may_have size (length value) ≡ true
    → (behind number value r >>= first_sized number size) ≡ ((r >>= first_sized number size) >>= λ later. found_value (Some value))
counts number size value (Ok tlvs) e = let same : eqb number number ≡ true = eq-eqb number number refl in rw (same, e) (counted (are_sized number size tlvs) value (first_of number tlvs))
counts number size value (Err fault) e = refl

is_wrong : (number : ℕ) (size : Option ℕ) (value : List ℕ) (r : Result (List Tlv) BodyFault) → ((e : BodyFault) → r ≡ Err e → e ≡ BadTlv) → may_have size (length value) ≡ false
    → (behind number value r >>= first_sized number size) ≡ Err BadTlv
is_wrong number size value (Ok tlvs) only e = let same : eqb number number ≡ true = eq-eqb number number refl in rw (same, e) refl
is_wrong number size value (Err fault) only e = rw (only fault refl) refl

kept_first : (found : List ℕ) (value : List ℕ) (r : Result (Option (List ℕ)) BodyFault) → or_found (Some found) (r >>= λ later. found_value (Some value)) ≡ or_found (Some found) r
kept_first found value (Ok later) = refl
kept_first found value (Err e) = refl

is_first : (value : List ℕ) (r : Result (Option (List ℕ)) BodyFault) → or_found None (r >>= λ later. found_value (Some value)) ≡ or_found (Some value) r
is_first value (Ok later) = refl
is_first value (Err e) = refl

pub other_type : (number : ℕ) (size : Option ℕ) (found : Option (List ℕ)) (rest after : List ℕ) (other : ℕ) (value : List ℕ) (total : Result (Option (List ℕ)) BodyFault)
    → tlvs_in rest ≡ behind other value (tlvs_in after) → (other ≡ number → ⊥) → or_found found (value_in number size rest) ≡ total → or_found found (value_in number size after) ≡ total
unfolding value_in
other_type number size found rest after other value total h e so_far =
    ap (or_found found) (sym (passes number size other value (tlvs_in after) (ne_eqb other number e)) ∙ ap (λ r. r >>= first_sized number size) (sym h)) ∙ so_far

pub first_one : (number : ℕ) (size : Option ℕ) (found : Option (List ℕ)) (rest after : List ℕ) (other : ℕ) (value : List ℕ) (total : Result (Option (List ℕ)) BodyFault) → found ≡ None
    → tlvs_in rest ≡ behind other value (tlvs_in after) → other ≡ number → may_have size (length value) ≡ true → or_found found (value_in number size rest) ≡ total → or_found (Some value) (value_in number size after) ≡ total
unfolding value_in
first_one number size found rest after other value total none h same e so_far =
    let own : tlvs_in rest ≡ behind number value (tlvs_in after) = h ∙ ap (λ (n : ℕ). behind n value (tlvs_in after)) same in
    sym (is_first value (tlvs_in after >>= first_sized number size))
    ∙ ap (or_found None) (sym (counts number size value (tlvs_in after) e) ∙ ap (λ r. r >>= first_sized number size) (sym own))
    ∙ ap (λ (f : Option (List ℕ)). or_found f (tlvs_in rest >>= first_sized number size)) (sym none) ∙ so_far

pub later_one : (number : ℕ) (size : Option ℕ) (found : Option (List ℕ)) (earlier : List ℕ) (rest after : List ℕ) (other : ℕ) (value : List ℕ) (total : Result (Option (List ℕ)) BodyFault) → found ≡ Some earlier
    → tlvs_in rest ≡ behind other value (tlvs_in after) → other ≡ number → may_have size (length value) ≡ true → or_found found (value_in number size rest) ≡ total → or_found found (value_in number size after) ≡ total
unfolding value_in
later_one number size None earlier rest after other value total some h same e so_far = cc
later_one number size (Some found) earlier rest after other value total some h same e so_far =
    let own : tlvs_in rest ≡ behind number value (tlvs_in after) = h ∙ ap (λ (n : ℕ). behind n value (tlvs_in after)) same in
    sym (kept_first found value (tlvs_in after >>= first_sized number size))
    ∙ ap (or_found (Some found)) (sym (counts number size value (tlvs_in after) e) ∙ ap (λ r. r >>= first_sized number size) (sym own)) ∙ so_far

pub wrong_size : (number : ℕ) (size : Option ℕ) (found : Option (List ℕ)) (rest after : List ℕ) (other : ℕ) (value : List ℕ) (total : Result (Option (List ℕ)) BodyFault)
    → tlvs_in rest ≡ behind other value (tlvs_in after) → other ≡ number → may_have size (length value) ≡ false → or_found found (value_in number size rest) ≡ total → total ≡ Err BadTlv
unfolding value_in
wrong_size number size found rest after other value total h same e so_far =
    let own : tlvs_in rest ≡ behind number value (tlvs_in after) = h ∙ ap (λ (n : ℕ). behind n value (tlvs_in after)) same in
    sym so_far ∙ ap (or_found found) (ap (λ r. r >>= first_sized number size) own ∙ is_wrong number size value (tlvs_in after) (tlvs_bad after) e)

pub value_ends : (number : ℕ) (size : Option ℕ) (found : Option (List ℕ)) (rest : List ℕ) (total : Result (Option (List ℕ)) BodyFault)
    → 0 < length rest → tlv_size rest ≡ Err BadTlv → or_found found (value_in number size rest) ≡ total → total ≡ Err BadTlv
unfolding value_in
value_ends number size found rest total some h so_far = sym so_far ∙ rw (ends rest some h) refl

pub value_done : (number : ℕ) (size : Option ℕ) (found : Option (List ℕ)) (rest : List ℕ) (total : Result (Option (List ℕ)) BodyFault)
    → length rest ≡ 0 → or_found found (value_in number size rest) ≡ total → total ≡ found_value found
unfolding value_in tlvs_in cut
value_done number size None [] total none so_far = sym so_far
value_done number size (Some value) [] total none so_far = sym so_far
value_done number size found (b ∷ bytes) total none so_far = absurd (omega arith)

-- ---- the first TLV of a type and a size

abbrev fit : ℕ → ℕ → List Tlv → Result (Option (List ℕ)) BodyFault
fit number size tlvs = Ok (first_fitting number size tlvs)

one_more : (number size other : ℕ) (value : List ℕ) (fits : Bool) (found : Option (List ℕ)) (r : Result (List Tlv) BodyFault) → (eqb other number && eqb (length value) size) ≡ fits
    → or_found found (behind other value r >>= fit number size) ≡ or_found (option_or found (cond fits (Some value) None)) (r >>= fit number size)
one_more number size other value fits found (Err fault) e = refl
one_more number size other value fits (Some earlier) (Ok tlvs) e = refl
one_more number size other value true None (Ok tlvs) e = rw e refl
one_more number size other value false None (Ok tlvs) e = rw e refl

goes_on : (number size : ℕ) (found : Option (List ℕ)) (rest after : List ℕ) (other : ℕ) (value : List ℕ) (fits : Bool) (total : Result (Option (List ℕ)) BodyFault)
    → tlvs_in rest ≡ behind other value (tlvs_in after) → (eqb other number && eqb (length value) size) ≡ fits → or_found found (fitting_in number size rest) ≡ total
    → or_found (option_or found (cond fits (Some value) None)) (fitting_in number size after) ≡ total
unfolding fitting_in
goes_on number size found rest after other value fits total h e so_far =
    sym (one_more number size other value fits found (tlvs_in after) e) ∙ ap (λ r. or_found found (r >>= fit number size)) (sym h) ∙ so_far

fits_both : (number size other n : ℕ) → other ≡ number → n ≡ size → (eqb other number && eqb n size) ≡ true
fits_both number size other n a b = let s : eqb other number ≡ true = eq-eqb other number a in let t : eqb n size ≡ true = eq-eqb n size b in rw (s, t) refl

and_is : (a b : Bool) → ((a && b) ≡ true) ⊎ ((a && b) ≡ false)
and_is true true = inl refl
and_is true false = inr refl
and_is false b = inr refl

fits_not : (number size other n : ℕ) → (other ≡ number → n ≡ size → ⊥) → (eqb other number && eqb n size) ≡ false
fits_not number size other n h = elim (and_is (eqb other number) (eqb n size)) [
  | inl e ↦ absurd (h (eqb-true other number (and_parts _ _ e).0) (eqb-true n size (and_parts _ _ e).1))
  | inr e ↦ e
]

pub first_fits : (number size : ℕ) (found : Option (List ℕ)) (rest after : List ℕ) (other : ℕ) (value : List ℕ) (total : Result (Option (List ℕ)) BodyFault) → found ≡ None
    → tlvs_in rest ≡ behind other value (tlvs_in after) → other ≡ number → length value ≡ size → or_found found (fitting_in number size rest) ≡ total → or_found (Some value) (fitting_in number size after) ≡ total
first_fits number size None rest after other value total none h a b so_far = goes_on number size None rest after other value true total h (fits_both number size other (length value) a b) so_far
first_fits number size (Some found) rest after other value total none h a b so_far = cc

pub later_fits : (number size : ℕ) (found : Option (List ℕ)) (earlier : List ℕ) (rest after : List ℕ) (other : ℕ) (value : List ℕ) (total : Result (Option (List ℕ)) BodyFault) → found ≡ Some earlier
    → tlvs_in rest ≡ behind other value (tlvs_in after) → other ≡ number → length value ≡ size → or_found found (fitting_in number size rest) ≡ total → or_found found (fitting_in number size after) ≡ total
later_fits number size None earlier rest after other value total some h a b so_far = cc
later_fits number size (Some found) earlier rest after other value total some h a b so_far = goes_on number size (Some found) rest after other value true total h (fits_both number size other (length value) a b) so_far

pub other_fits : (number size : ℕ) (found : Option (List ℕ)) (rest after : List ℕ) (other : ℕ) (value : List ℕ) (total : Result (Option (List ℕ)) BodyFault)
    → tlvs_in rest ≡ behind other value (tlvs_in after) → (other ≡ number → length value ≡ size → ⊥) → or_found found (fitting_in number size rest) ≡ total → or_found found (fitting_in number size after) ≡ total
other_fits number size None rest after other value total h never so_far = goes_on number size None rest after other value false total h (fits_not number size other (length value) never) so_far
other_fits number size (Some found) rest after other value total h never so_far = goes_on number size (Some found) rest after other value false total h (fits_not number size other (length value) never) so_far

pub fitting_ends : (number size : ℕ) (found : Option (List ℕ)) (rest : List ℕ) (total : Result (Option (List ℕ)) BodyFault)
    → 0 < length rest → tlv_size rest ≡ Err BadTlv → or_found found (fitting_in number size rest) ≡ total → total ≡ Err BadTlv
unfolding fitting_in
fitting_ends number size found rest total some h so_far = sym so_far ∙ rw (ends rest some h) refl

pub fitting_done : (number size : ℕ) (found : Option (List ℕ)) (rest : List ℕ) (total : Result (Option (List ℕ)) BodyFault)
    → length rest ≡ 0 → or_found found (fitting_in number size rest) ≡ total → total ≡ found_value found
unfolding fitting_in tlvs_in cut
fitting_done number size None [] total none so_far = sym so_far
fitting_done number size (Some value) [] total none so_far = sym so_far
fitting_done number size found (b ∷ bytes) total none so_far = absurd (omega arith)
