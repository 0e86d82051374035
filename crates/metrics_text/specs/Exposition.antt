-- Families of samples, and their text in Prometheus's text format 0.0.4.
use Rattle.std.specs.Prelude.{ℕ, ◌+◌, ◌/◌, ◌%◌, ◌==◌, List, [], ◌∷◌, ◌++◌, codes, cond, drop, Option, Some, None}
use Rattle.std.specs.Fmt.{decimal, signed_decimal}
use Rattle.std.specs.List.{flat_map}
use Rattle.metrics_text.specs.declared.format.Kind.{Kind}
use Rattle.metrics_text.specs.declared.format.Kind.TheVariants.{Gauge, Counter, Histogram}
use Rattle.metrics_text.specs.declared.format.Series.{Series}
use Rattle.metrics_text.specs.declared.format.Series.TheVariants.{Own, Bucket, Sum, Count}
use Rattle.metrics_text.specs.declared.format.Value.{Value}
use Rattle.metrics_text.specs.declared.format.Value.TheVariants.{Whole, Signed, Seconds}

-- a sample: which series of its metric it is of, the texts of its labels, and its value
pub record Sample : Type 0 where
  pub series : Series
  pub labels : List (List ℕ)
  pub value : Value

-- a metric: its kind, its name, its help, the names of its labels, and its samples
pub record Family : Type 0 where
  pub kind : Kind
  pub name : List ℕ
  pub help : List ℕ
  pub labels : List (List ℕ)
  pub samples : List Sample

abbrev pub sample : Series → List (List ℕ) → Value → Sample
sample series labels value = record { series = series; labels = labels; value = value }

-- ---- the text

-- what stands in a label's text for a byte: a backslash before a quote and a backslash, and \n for a line's end
abbrev pub escaped_byte : ℕ → List ℕ
escaped_byte b = cond (b == 34) (92 ∷ 34 ∷ []) (cond (b == 92) (92 ∷ 92 ∷ []) (cond (b == 10) (92 ∷ 110 ∷ []) (b ∷ [])))

abbrev pub escaped : List ℕ → List ℕ
escaped [] = []
escaped (b ∷ bs) = escaped_byte b ++ escaped bs

-- the six places of a number of microseconds, as seconds
unfoldable pub places : ℕ → List ℕ
places us = drop 1 (decimal (1000000 + us % 1000000))

-- microseconds as seconds with six places
unfoldable pub seconds : ℕ → List ℕ
seconds us = decimal (us / 1000000) ++ (codes "." ++ places us)

-- a bound of times, or none
abbrev pub bound_text : Option ℕ → List ℕ
bound_text None = codes "+Inf"
bound_text (Some us) = seconds us

abbrev pub value_text : Value → List ℕ
value_text (Whole n) = decimal n
value_text (Signed n) = signed_decimal n
value_text (Seconds us) = seconds us

abbrev pub kind_word : Kind → List ℕ
kind_word Gauge = codes "gauge"
kind_word Counter = codes "counter"
kind_word Histogram = codes "histogram"

-- what the name of a series adds to the name of its metric
abbrev pub suffix : Series → List ℕ
suffix Own = []
suffix Bucket = codes "_bucket"
suffix Sum = codes "_sum"
suffix Count = codes "_count"

unfoldable pub label_text : List ℕ → List ℕ → List ℕ
label_text name text = name ++ (codes "=\"" ++ (escaped text ++ codes "\""))

-- a comma before each label but the first
abbrev pub more_labels : List (List ℕ) → List (List ℕ) → List ℕ
more_labels [] texts = codes "}"
more_labels (name ∷ names) [] = codes "}"
more_labels (name ∷ names) (text ∷ texts) = codes "," ++ (label_text name text ++ more_labels names texts)

abbrev pub labels_text : List (List ℕ) → List (List ℕ) → List ℕ
labels_text [] texts = []
labels_text (name ∷ names) [] = []
labels_text (name ∷ names) (text ∷ texts) = codes "{" ++ (label_text name text ++ more_labels names texts)

-- the line of a sample, by its metric's name and labels
unfoldable pub sample_text : List ℕ → List (List ℕ) → Sample → List ℕ
sample_text name labels s =
    name ++ (suffix s.series ++ (labels_text labels s.labels ++ (codes " " ++ (value_text s.value ++ codes "\n"))))

-- the lines of samples
abbrev pub samples_text : List ℕ → List (List ℕ) → List Sample → List ℕ
samples_text name labels [] = []
samples_text name labels (s ∷ ss) = sample_text name labels s ++ samples_text name labels ss

-- the lines that say what a metric is
unfoldable pub help_text : List ℕ → List ℕ → List ℕ
help_text name help = codes "# HELP " ++ (name ++ (codes " " ++ (help ++ codes "\n")))

unfoldable pub type_text : List ℕ → Kind → List ℕ
type_text name kind = codes "# TYPE " ++ (name ++ (codes " " ++ (kind_word kind ++ codes "\n")))

unfoldable pub family_text : Family → List ℕ
family_text f = help_text f.name f.help ++ (type_text f.name f.kind ++ samples_text f.name f.labels f.samples)

-- the text of all, one after the other
unfoldable pub exposition : List Family → List ℕ
exposition fs = flat_map family_text fs
