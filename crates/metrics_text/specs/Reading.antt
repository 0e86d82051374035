-- A reader of Prometheus's text format 0.0.4, which takes one byte after the other.
use Rattle.std.specs.Prelude.{ℕ, ◌≡◌, ◌==◌, nat_le, Bool, true, false, not, ◌&&◌, ◌||◌, List, [], ◌∷◌, ◌++◌, codes, cond, fold, map, reverse, Option, Some, None}
use Rattle.std.specs.List.{list_all, list_any}
use Rattle.std.specs.Str.{bytes_eq}
use Rattle.metrics_text.specs.Exposition.{Family, Sample, exposition, kind_word, suffix, value_text}

-- ---- what is read

pub record Label : Type 0 where
  pub name : List ℕ
  pub text : List ℕ

-- a sample: its name, its labels, and its number as it is written
pub record ReadSample : Type 0 where
  pub name : List ℕ
  pub labels : List Label
  pub number : List ℕ

-- a metric: its type, its name, its help, and its samples
pub record ReadFamily : Type 0 where
  pub kind : List ℕ
  pub name : List ℕ
  pub help : List ℕ
  pub samples : List ReadSample

-- ---- words

abbrev pub is_digit : ℕ → Bool
is_digit b = nat_le 48 b && nat_le b 57

-- a to z, A to Z, and the underscore
abbrev pub is_letter : ℕ → Bool
is_letter b = (nat_le 97 b && nat_le b 122) || ((nat_le 65 b && nat_le b 90) || b == 95)

abbrev pub is_name_byte : ℕ → Bool
is_name_byte b = is_letter b || is_digit b

-- a name of a metric or of a label: a letter, and then letters and digits
abbrev pub is_name : List ℕ → Bool
is_name [] = false
is_name (b ∷ bs) = is_letter b && list_all is_name_byte bs

abbrev pub is_kind : List ℕ → Bool
is_kind word = bytes_eq word (codes "counter") || (bytes_eq word (codes "gauge") || bytes_eq word (codes "histogram"))

-- digits, and then perhaps a point and digits; whether a digit and whether a point came before
abbrev pub is_rest : Bool → Bool → List ℕ → Bool
is_rest digit point [] = digit
is_rest digit point (b ∷ bs) =
    cond (is_digit b) (is_rest true point bs) (cond (b == 46 && (digit && not point)) (is_rest false true bs) false)

-- a number: perhaps a minus, digits, and perhaps a point and digits
abbrev pub is_number : List ℕ → Bool
is_number [] = false
is_number (b ∷ bs) = cond (b == 45) (is_rest false false bs) (is_rest false false (b ∷ bs))

-- the rest of a text that begins with another
abbrev pub rest_after : List ℕ → List ℕ → Option (List ℕ)
rest_after [] text = Some text
rest_after (b ∷ bs) [] = None
rest_after (b ∷ bs) (c ∷ text) = cond (b == c) (rest_after bs text) None

abbrev pub is_suffix : Option (List ℕ) → Bool
is_suffix None = false
is_suffix (Some word) = bytes_eq word [] || (bytes_eq word (codes "_bucket") || (bytes_eq word (codes "_sum") || bytes_eq word (codes "_count")))

-- ---- the reader: the metrics before are those that are read, the last of them first

pub data Reader : Type 0 where
  Fault : Reader
  -- a line begins
  Line : (before : List ReadFamily) → Reader
  -- these bytes have to come
  Expect : (byte : ℕ) (bytes : List ℕ) (then : Reader) → Reader
  -- a name, a help or a type goes on
  Name : (before : List ReadFamily) (name : List ℕ) → Reader
  Help : (before : List ReadFamily) (name help : List ℕ) → Reader
  Kind : (before : List ReadFamily) (name help kind : List ℕ) → Reader
  -- a sample's name goes on
  Series : (before : List ReadFamily) (name : List ℕ) → Reader
  -- these labels were read; now a label's name goes on, or its text does, or a backslash came in the text, or the text
  -- has ended
  LabelName : (before : List ReadFamily) (name : List ℕ) (labels : List Label) (label : List ℕ) → Reader
  LabelText : (before : List ReadFamily) (name : List ℕ) (labels : List Label) (label text : List ℕ) → Reader
  Escape : (before : List ReadFamily) (name : List ℕ) (labels : List Label) (label text : List ℕ) → Reader
  Next : (before : List ReadFamily) (name : List ℕ) (labels : List Label) → Reader
  -- a number goes on
  Number : (before : List ReadFamily) (name : List ℕ) (labels : List Label) (number : List ℕ) → Reader

abbrev pub expect : List ℕ → Reader → Reader
expect [] r = r
expect (b ∷ bs) r = Expect b bs r

-- a sample belongs to the metric that was named last
abbrev pub with_sample : List ReadFamily → ReadSample → Reader
with_sample [] s = Fault
with_sample (f ∷ before) s = cond (is_suffix (rest_after f.name s.name)) (Line (record f { samples = f.samples ++ s ∷ [] } ∷ before)) Fault

abbrev pub is_known : List ℕ → List (List ℕ) → Bool
is_known name names = list_any (bytes_eq name) names

abbrev pub family_name : ReadFamily → List ℕ
family_name f = f.name

-- the help of a metric that isn't known is followed by its type
abbrev pub step : Reader → ℕ → Reader
step Fault b = Fault
step (Line fs) b = cond (is_letter b) (Series fs (b ∷ [])) (cond (b == 35) (expect (codes " HELP ") (Name fs [])) Fault)
step (Expect e es r) b = cond (e == b) (expect es r) Fault
step (Name fs n) b =
    cond (is_name_byte b) (Name fs (n ++ b ∷ []))
    (cond (b == 32 && (is_name n && not (is_known n (map family_name fs)))) (Help fs n []) Fault)
step (Help fs n h) b =
    cond (b == 10) (expect (codes "# TYPE " ++ (n ++ codes " ")) (Kind fs n h []))
    (cond (b == 92) Fault (Help fs n (h ++ b ∷ [])))
step (Kind fs n h k) b =
    cond (is_letter b) (Kind fs n h (k ++ b ∷ []))
    (cond (b == 10 && is_kind k) (Line (record { kind = k; name = n; help = h; samples = [] } ∷ fs)) Fault)
step (Series fs n) b =
    cond (is_name_byte b) (Series fs (n ++ b ∷ []))
    (cond (b == 123) (LabelName fs n [] []) (cond (b == 32) (Number fs n [] []) Fault))
step (LabelName fs n ls l) b =
    cond (is_name_byte b) (LabelName fs n ls (l ++ b ∷ []))
    (cond (b == 61 && is_name l) (expect (codes "\"") (LabelText fs n ls l [])) Fault)
step (LabelText fs n ls l t) b =
    cond (b == 34) (Next fs n (ls ++ record { name = l; text = t } ∷ []))
    (cond (b == 92) (Escape fs n ls l t) (cond (b == 10) Fault (LabelText fs n ls l (t ++ b ∷ []))))
step (Escape fs n ls l t) b =
    cond (b == 34) (LabelText fs n ls l (t ++ 34 ∷ []))
    (cond (b == 92) (LabelText fs n ls l (t ++ 92 ∷ [])) (cond (b == 110) (LabelText fs n ls l (t ++ 10 ∷ [])) Fault))
step (Next fs n ls) b =
    cond (b == 44) (LabelName fs n ls []) (cond (b == 125) (expect (codes " ") (Number fs n ls [])) Fault)
step (Number fs n ls d) b =
    cond (b == 10) (cond (is_number d) (with_sample fs (record { name = n; labels = ls; number = d })) Fault)
    (Number fs n ls (d ++ b ∷ []))

abbrev pub metrics_of : Reader → Option (List ReadFamily)
metrics_of (Line fs) = Some (reverse fs)
metrics_of _ = None

-- what is read of a text, if it is well formed
abbrev pub metrics_in : List ℕ → Option (List ReadFamily)
metrics_in text = metrics_of (fold step (Line []) text)

-- ---- what families are read as

abbrev pub labelled : List (List ℕ) → List (List ℕ) → List Label
labelled [] texts = []
labelled (name ∷ names) [] = []
labelled (name ∷ names) (text ∷ texts) = record { name = name; text = text } ∷ labelled names texts

abbrev pub as_sample : List ℕ → List (List ℕ) → Sample → ReadSample
as_sample name labels s = record { name = name ++ suffix s.series; labels = labelled labels s.labels; number = value_text s.value }

abbrev pub as_family : Family → ReadFamily
as_family f = record { kind = kind_word f.kind; name = f.name; help = f.help; samples = map (as_sample f.name f.labels) f.samples }

abbrev pub is_help_byte : ℕ → Bool
is_help_byte b = not (b == 10) && not (b == 92)

-- The metrics and their labels have names, none of which is that of a metric before; no help has a line's end or a
-- backslash. Nothing is asked of samples.
abbrev pub are_named : List (List ℕ) → List Family → Bool
are_named names [] = true
are_named names (f ∷ fs) =
    is_name f.name && (not (is_known f.name names) && (list_all is_help_byte f.help && (list_all is_name f.labels && are_named (f.name ∷ names) fs)))

-- the reader reads the text of metrics as exactly these metrics
abbrev pub IsRead : List Family → Type 0
IsRead fs = metrics_in (exposition fs) ≡ Some (map as_family fs)
