-- The text of metrics is read as these metrics.
use Rattle.std.proofs.Common.{◌≡◌, ◌∙◌, ℕ, suc, ◌/◌, ◌≤◌, ℤ, pos, negsuc, Bool, true, false, not, Some, List, [], ◌∷◌, ◌++◌, fold, map, refl, sym, ap, append_assoc, arith, codes, inl, inr}
use mathlib.Core.List.{reverse_aux}
use Rattle.std.proofs.Math.Dec.{eqb}
use Rattle.std.proofs.lemmas.Bool.{and_parts, cases_eq, eq-eqb, ne_eqb, le-leb, not-true}
use Rattle.std.proofs.lemmas.List.{append-nil, reverse-reverse}
use Rattle.std.proofs.lemmas.List.Sums.{fold-append}
use Rattle.std.specs.Fmt.{decimal, signed_decimal}
use Rattle.std.specs.List.{flat_map, list_all}
use Rattle.metrics_text.proofs.Digits.{AreDigits, IsSome_digit, decimal_digits, decimal_some, places_digits, places_some}
use Rattle.metrics_text.specs.declared.format.Kind.{Kind}
use Rattle.metrics_text.specs.declared.format.Kind.TheVariants.{Gauge, Counter, Histogram}
use Rattle.metrics_text.specs.declared.format.Series.{Series}
use Rattle.metrics_text.specs.declared.format.Series.TheVariants.{Own, Bucket, Sum, Count}
use Rattle.metrics_text.specs.declared.format.Value.{Value}
use Rattle.metrics_text.specs.declared.format.Value.TheVariants.{Whole, Signed, Seconds}
use Rattle.metrics_text.specs.Exposition.{Family, Sample, escaped, escaped_byte, exposition, family_text, help_text, kind_word, label_text, labels_text, more_labels, places, sample_text, samples_text, seconds, suffix, type_text, value_text}
use Rattle.metrics_text.specs.Reading.{IsRead, Label, ReadFamily, ReadSample, Reader, are_named, as_family, as_sample, expect, family_name, is_digit, is_help_byte, is_known, is_letter, is_name, is_name_byte, is_number, is_rest, is_suffix, labelled, metrics_of, rest_after, step}
use Rattle.metrics_text.specs.Reading.Reader.{Help, Kind as KindWord, LabelName, LabelText, Line, Name, Next, Number, Series as Named}

abbrev run : Reader → List ℕ → Reader
run r text = fold step r text

then_run : (r : Reader) (a b : List ℕ) → run r (a ++ b) ≡ run (run r a) b
then_run r a b = fold-append step r a b

-- one text is read to a state, and the next from there
after : (r s t : Reader) (a b : List ℕ) → run r a ≡ s → run s b ≡ t → run r (a ++ b) ≡ t
after r s t a b first second = then_run r a b ∙ ap (λ (x : Reader). run x b) first ∙ second

expected : (bs : List ℕ) (r : Reader) → run (expect bs r) bs ≡ r
expected [] r = refl
expected (b ∷ bs) r = rw (eq-eqb b b refl) (expected bs r)

-- a state that collects bytes of a kind
collected : (is : ℕ → Bool) (at : List ℕ → Reader) → ((a : List ℕ) (b : ℕ) → is b ≡ true → step (at a) b ≡ at (a ++ b ∷ []))
    → (a bs : List ℕ) → list_all is bs ≡ true → run (at a) bs ≡ at (a ++ bs)
collected is at more a [] all = ap at (sym (append-nil a))
collected is at more a (b ∷ bs) all =
    let p = and_parts (is b) (list_all is bs) all in
    ap (λ (x : Reader). run x bs) (more a b p.0) ∙ collected is at more (a ++ b ∷ []) bs p.1 ∙ ap at (append_assoc a (b ∷ []) bs)

-- ---- the help and the type

named : (fs : List ReadFamily) (bs : List ℕ) → list_all is_name_byte bs ≡ true → run (Name fs []) bs ≡ Name fs bs
named fs bs all = collected is_name_byte (λ a. Name fs a) (λ a b e. rw e refl) [] bs all

name_bytes : (n : List ℕ) → is_name n ≡ true → list_all is_name_byte n ≡ true
name_bytes [] e = refl
name_bytes (b ∷ bs) e = let p = and_parts (is_letter b) (list_all is_name_byte bs) e in rw (p.0, p.1) refl

helped : (fs : List ReadFamily) (n bs : List ℕ) → list_all is_help_byte bs ≡ true → run (Help fs n []) bs ≡ Help fs n bs
helped fs n bs all = collected is_help_byte (λ a. Help fs n a) more [] bs all
  where
    more : (a : List ℕ) (b : ℕ) → is_help_byte b ≡ true → step (Help fs n a) b ≡ Help fs n (a ++ b ∷ [])
    more a b e = let p = and_parts (not (eqb b 10)) (not (eqb b 92)) e in rw (not-true (eqb b 10) p.0, not-true (eqb b 92) p.1) refl

-- the line of the help, up to its end
help_read : (fs : List ReadFamily) (n h : List ℕ) → is_name n ≡ true → is_known n (map family_name fs) ≡ false → list_all is_help_byte h ≡ true
    → run (Line fs) (help_text n h) ≡ expect (codes "# TYPE " ++ (n ++ codes " ")) (KindWord fs n h [])
unfolding help_text
help_read fs n h name new help =
    let end = h ++ codes "\n" in
    after (Line fs) (Name fs []) _ (codes "# HELP ") (n ++ (codes " " ++ end)) refl
    (after (Name fs []) (Name fs n) _ n (codes " " ++ end) (named fs n (name_bytes n name))
    (after (Name fs n) (Help fs n []) _ (codes " ") end (rw (name, new) refl)
    (after (Help fs n []) (Help fs n h) _ h (codes "\n") (helped fs n h help) refl)))

kind_read : (fs : List ReadFamily) (n h : List ℕ) (k : Kind) → run (KindWord fs n h []) (kind_word k ++ codes "\n") ≡ Line (record { kind = kind_word k; name = n; help = h; samples = [] } ∷ fs)
kind_read fs n h Gauge = refl
kind_read fs n h Counter = refl
kind_read fs n h Histogram = refl

type_read : (fs : List ReadFamily) (n h : List ℕ) (k : Kind)
    → run (expect (codes "# TYPE " ++ (n ++ codes " ")) (KindWord fs n h [])) (type_text n k) ≡ Line (record { kind = kind_word k; name = n; help = h; samples = [] } ∷ fs)
unfolding type_text
type_read fs n h k =
    let mark = codes "# TYPE " in
    let parts : mark ++ (n ++ (codes " " ++ (kind_word k ++ codes "\n"))) ≡ (mark ++ (n ++ codes " ")) ++ (kind_word k ++ codes "\n") =
    ap (λ (x : List ℕ). mark ++ x) (sym (append_assoc n (codes " ") (kind_word k ++ codes "\n"))) ∙ sym (append_assoc mark (n ++ codes " ") (kind_word k ++ codes "\n")) in
    ap (run (expect (mark ++ (n ++ codes " ")) (KindWord fs n h []))) parts
    ∙ after (expect (mark ++ (n ++ codes " ")) (KindWord fs n h [])) (KindWord fs n h []) _ (mark ++ (n ++ codes " ")) _ (expected (mark ++ (n ++ codes " ")) (KindWord fs n h [])) (kind_read fs n h k)

-- ---- labels

module _ (fs : List ReadFamily) (n : List ℕ) where
  text_read : (ls : List Label) (l t x : List ℕ) → run (LabelText fs n ls l t) (escaped x) ≡ LabelText fs n ls l (t ++ x)
  text_read ls l t [] = ap (LabelText fs n ls l) (sym (append-nil t))
  text_read ls l t (b ∷ x) =
      after (LabelText fs n ls l t) (LabelText fs n ls l (t ++ b ∷ [])) _ (escaped_byte b) (escaped x) (byte_read ls l t b)
      (text_read ls l (t ++ b ∷ []) x ∙ ap (LabelText fs n ls l) (append_assoc t (b ∷ []) x))
    where
      byte_read : (ls : List Label) (l t : List ℕ) (b : ℕ) → run (LabelText fs n ls l t) (escaped_byte b) ≡ LabelText fs n ls l (t ++ b ∷ [])
      byte_read ls l t b = elim (cases_eq b 34) [
        | inl quote ↦ rw (quote) refl
        | inr other ↦ elim (cases_eq b 92) [
          | inl backslash ↦ rw (backslash) refl
          | inr more ↦ elim (cases_eq b 10) [
            | inl end ↦ rw (end) refl
            | inr rest ↦ rw (ne_eqb b 34 other, ne_eqb b 92 more, ne_eqb b 10 rest) (rw (ne_eqb b 34 other, ne_eqb b 92 more, ne_eqb b 10 rest) refl)
          ]
        ]
      ]

  label_name : (ls : List Label) (bs : List ℕ) → list_all is_name_byte bs ≡ true → run (LabelName fs n ls []) bs ≡ LabelName fs n ls bs
  label_name ls bs all = collected is_name_byte (λ a. LabelName fs n ls a) (λ a b e. rw e refl) [] bs all

  label_read : (ls : List Label) (l x : List ℕ) → is_name l ≡ true → run (LabelName fs n ls []) (label_text l x) ≡ Next fs n (ls ++ record { name = l; text = x } ∷ [])
  unfolding label_text
  label_read ls l x name =
      after (LabelName fs n ls []) (LabelName fs n ls l) _ l _ (label_name ls l (name_bytes l name))
      (after (LabelName fs n ls l) (LabelText fs n ls l []) _ (codes "=\"") (escaped x ++ codes "\"") (rw name refl)
      (after (LabelText fs n ls l []) (LabelText fs n ls l x) _ (escaped x) (codes "\"") (text_read ls l [] x) refl))

  more_read : (ls : List Label) (names texts : List (List ℕ)) → list_all is_name names ≡ true
      → run (Next fs n ls) (more_labels names texts ++ codes " ") ≡ Number fs n (ls ++ labelled names texts) []
  more_read ls [] texts all = ap (λ (x : List Label). Number fs n x []) (sym (append-nil ls))
  more_read ls (l ∷ names) [] all = ap (λ (x : List Label). Number fs n x []) (sym (append-nil ls))
  more_read ls (l ∷ names) (x ∷ texts) all =
      let p = and_parts (is_name l) (list_all is_name names) all in
      let one : Label = record { name = l; text = x } in
      ap (λ (y : List ℕ). run (LabelName fs n ls []) y) (append_assoc (label_text l x) (more_labels names texts) (codes " "))
      ∙ after (LabelName fs n ls []) (Next fs n (ls ++ one ∷ [])) _ (label_text l x) _ (label_read ls l x p.0) (more_read (ls ++ one ∷ []) names texts p.1)
      ∙ ap (λ (y : List Label). Number fs n y []) (append_assoc ls (one ∷ []) (labelled names texts))

  labels_read : (names texts : List (List ℕ)) → list_all is_name names ≡ true → run (Named fs n) (labels_text names texts ++ codes " ") ≡ Number fs n (labelled names texts) []
  labels_read [] texts all = refl
  labels_read (l ∷ names) [] all = refl
  labels_read (l ∷ names) (x ∷ texts) all =
      let p = and_parts (is_name l) (list_all is_name names) all in
      let one : Label = record { name = l; text = x } in
      ap (λ (y : List ℕ). run (LabelName fs n [] []) y) (append_assoc (label_text l x) (more_labels names texts) (codes " "))
      ∙ after (LabelName fs n [] []) (Next fs n (one ∷ [])) _ (label_text l x) _ (label_read [] l x p.0) (more_read (one ∷ []) names texts p.1)

-- ---- numbers

abbrev is_inner : ℕ → Bool
is_inner b = not (eqb b 10)

abbrev IsNumber : List ℕ → Type 0
IsNumber t = (list_all is_inner t ≡ true) × (is_number t ≡ true)

digit_true : (b : ℕ) → 48 ≤ b → b ≤ 57 → is_digit b ≡ true
digit_true b low high = rw (le-leb 48 b low, le-leb b 57 high) refl

inner_digits : (ds more : List ℕ) → AreDigits ds → list_all is_inner (ds ++ more) ≡ list_all is_inner more
inner_digits [] more are = refl
inner_digits (b ∷ ds) more are = rw (ne_eqb b 10 (λ e. omega (arith, are.0))) (inner_digits ds more are.2)

digits_rest : (point : Bool) (ds more : List ℕ) → AreDigits ds → is_rest true point (ds ++ more) ≡ is_rest true point more
digits_rest point [] more are = refl
digits_rest point (b ∷ ds) more are = rw (digit_true b are.0 are.1) (digits_rest point ds more are.2)

first_digits : (digit point : Bool) (ds more : List ℕ) → AreDigits ds → IsSome_digit ds → is_rest digit point (ds ++ more) ≡ is_rest true point more
first_digits digit point [] more are some = absurd some
first_digits digit point (b ∷ ds) more are some = rw (digit_true b are.0 are.1) (digits_rest point ds more are.2)

unsigned : (ds more : List ℕ) → AreDigits ds → IsSome_digit ds → is_number (ds ++ more) ≡ is_rest true false more
unsigned [] more are some = absurd some
unsigned (b ∷ ds) more are some = rw (ne_eqb b 45 (λ e. omega (arith, are.0))) (first_digits false false (b ∷ ds) more are some)

whole_read : (n : ℕ) → IsNumber (decimal n)
whole_read n = (
  ap (list_all is_inner) (sym (append-nil (decimal n))) ∙ inner_digits (decimal n) [] (decimal_digits n),
  ap is_number (sym (append-nil (decimal n))) ∙ unsigned (decimal n) [] (decimal_digits n) (decimal_some n),
)

signed_read : (z : ℤ) → IsNumber (signed_decimal z)
signed_read (pos n) = whole_read n
signed_read (negsuc n) =
    let ds = decimal (suc n) in
    ((whole_read (suc n)).0, ap (is_rest false false) (sym (append-nil ds)) ∙ first_digits false false ds [] (decimal_digits (suc n)) (decimal_some (suc n)))

seconds_read : (us : ℕ) → IsNumber (seconds us)
unfolding seconds
seconds_read us =
    let ds = decimal (us / 1000000) in
    let p = places us in (
      inner_digits ds (codes "." ++ p) (decimal_digits (us / 1000000)) ∙ ap (list_all is_inner) (sym (append-nil p)) ∙ inner_digits p [] (places_digits us),
      unsigned ds (codes "." ++ p) (decimal_digits (us / 1000000)) (decimal_some (us / 1000000)) ∙ ap (is_rest false true) (sym (append-nil p))
          ∙ first_digits false true p [] (places_digits us) (places_some us),
    )

value_read : (v : Value) → IsNumber (value_text v)
value_read (Whole n) = whole_read n
value_read (Signed z) = signed_read z
value_read (Seconds us) = seconds_read us

-- ---- samples

suffix_bytes : (s : Series) → list_all is_name_byte (suffix s) ≡ true
suffix_bytes Own = refl
suffix_bytes Bucket = refl
suffix_bytes Sum = refl
suffix_bytes Count = refl

suffix_is : (s : Series) → is_suffix (Some (suffix s)) ≡ true
suffix_is Own = refl
suffix_is Bucket = refl
suffix_is Sum = refl
suffix_is Count = refl

rest_is : (n rest : List ℕ) → rest_after n (n ++ rest) ≡ Some rest
rest_is [] rest = refl
rest_is (b ∷ n) rest = rw (eq-eqb b b refl) (rest_is n rest)

series_more : (fs : List ReadFamily) (a bs : List ℕ) → list_all is_name_byte bs ≡ true → run (Named fs a) bs ≡ Named fs (a ++ bs)
series_more fs a bs all = collected is_name_byte (λ x. Named fs x) (λ x b e. rw e refl) a bs all

series_read : (fs : List ReadFamily) (n : List ℕ) → is_name n ≡ true → run (Line fs) n ≡ Named fs n
series_read fs [] e = absurd cc
series_read fs (b ∷ bs) e =
    let p = and_parts (is_letter b) (list_all is_name_byte bs) e in
    ap (λ (x : Reader). run x bs) (let first : step (Line fs) b ≡ Named fs (b ∷ []) = rw p.0 refl in first) ∙ series_more fs (b ∷ []) bs p.1

number_read : (fs : List ReadFamily) (n : List ℕ) (ls : List Label) (t : List ℕ) → list_all is_inner t ≡ true → run (Number fs n ls []) t ≡ Number fs n ls t
number_read fs n ls t all = collected is_inner (λ x. Number fs n ls x) (λ x b e. rw (not-true (eqb b 10) e) refl) [] t all

-- the line of a sample adds it to its metric, which was named last
sample_read : (f : ReadFamily) (fs : List ReadFamily) (labels : List (List ℕ)) (s : Sample) → is_name f.name ≡ true → list_all is_name labels ≡ true
    → run (Line (f ∷ fs)) (sample_text f.name labels s) ≡ Line (record f { samples = f.samples ++ as_sample f.name labels s ∷ [] } ∷ fs)
unfolding sample_text
sample_read f fs labels s name names =
    let all = f ∷ fs in
    let series = f.name ++ suffix s.series in
    let v = value_read s.value in
    let own : is_suffix (rest_after f.name series) ≡ true = ap is_suffix (rest_is f.name (suffix s.series)) ∙ suffix_is s.series in
    after (Line all) (Named all f.name) _ f.name _ (series_read all f.name name)
    (after (Named all f.name) (Named all series) _ (suffix s.series) _ (series_more all f.name (suffix s.series) (suffix_bytes s.series))
    (ap (run (Named all series)) (sym (append_assoc (labels_text labels s.labels) (codes " ") (value_text s.value ++ codes "\n")))
    ∙ after (Named all series) (Number all series (labelled labels s.labels) []) _ (labels_text labels s.labels ++ codes " ") _ (labels_read all series labels s.labels names)
    (after (Number all series (labelled labels s.labels) []) (Number all series (labelled labels s.labels) (value_text s.value)) _ (value_text s.value) (codes "\n")
    (number_read all series (labelled labels s.labels) (value_text s.value) v.0)
    (rw (v.1, own) refl))))

samples_read : (f : ReadFamily) (fs : List ReadFamily) (labels : List (List ℕ)) (ss : List Sample) → is_name f.name ≡ true → list_all is_name labels ≡ true
    → run (Line (f ∷ fs)) (samples_text f.name labels ss) ≡ Line (record f { samples = f.samples ++ map (as_sample f.name labels) ss } ∷ fs)
samples_read f fs labels [] name names = ap (λ (x : List ReadSample). Line (record f { samples = x } ∷ fs)) (sym (append-nil f.samples))
samples_read f fs labels (s ∷ ss) name names =
    let g : ReadFamily = record f { samples = f.samples ++ as_sample f.name labels s ∷ [] } in
    after (Line (f ∷ fs)) (Line (g ∷ fs)) _ (sample_text f.name labels s) _ (sample_read f fs labels s name names)
    (samples_read g fs labels ss name names
    ∙ ap (λ (x : List ReadSample). Line (record f { samples = x } ∷ fs)) (append_assoc f.samples (as_sample f.name labels s ∷ []) (map (as_sample f.name labels) ss)))

-- ---- all

family_read : (fs : List ReadFamily) (f : Family) → is_name f.name ≡ true → is_known f.name (map family_name fs) ≡ false → list_all is_help_byte f.help ≡ true → list_all is_name f.labels ≡ true
    → run (Line fs) (family_text f) ≡ Line (as_family f ∷ fs)
unfolding family_text
family_read fs f name new help labels =
    let g : ReadFamily = record { kind = kind_word f.kind; name = f.name; help = f.help; samples = [] } in
    after (Line fs) (expect (codes "# TYPE " ++ (f.name ++ codes " ")) (KindWord fs f.name f.help [])) _ (help_text f.name f.help) _ (help_read fs f.name f.help name new help)
    (after (expect (codes "# TYPE " ++ (f.name ++ codes " ")) (KindWord fs f.name f.help [])) (Line (g ∷ fs)) _ (type_text f.name f.kind) _ (type_read fs f.name f.help f.kind) (samples_read g fs f.labels f.samples name labels))

families_read : (fs : List Family) (before : List ReadFamily) → are_named (map family_name before) fs ≡ true
    → run (Line before) (flat_map family_text fs) ≡ Line (reverse_aux (map as_family fs) before)
families_read [] before e = refl
families_read (f ∷ fs) before e =
    let names = map family_name before in
    let p = and_parts (is_name f.name) _ e in
    let q = and_parts (not (is_known f.name names)) _ p.1 in
    let r = and_parts (list_all is_help_byte f.help) _ q.1 in
    let t = and_parts (list_all is_name f.labels) (are_named (f.name ∷ names) fs) r.1 in
    after (Line before) (Line (as_family f ∷ before)) _ (family_text f) _ (family_read before f p.0 (not-true _ q.0) r.0 t.0) (families_read fs (as_family f ∷ before) t.1)

pub read_again : (fs : List Family) → are_named [] fs ≡ true → IsRead fs
unfolding exposition
read_again fs e = ap metrics_of (families_read fs [] e) ∙ ap Some (reverse-reverse (map as_family fs))
