-- The text of lists that stand one after the other.
use Rattle.std.proofs.Common.{◌≡◌, ◌∙◌, ℕ, List, [], ◌∷◌, ◌++◌, refl, sym, ap, append_assoc}
pub use Rattle.std.proofs.lemmas.List.{append-nil}
use Rattle.metrics_text.specs.declared.format.Metric.{Metric}
use Rattle.metrics_text.specs.Rows.{lines_of, names_of}
use Rattle.metrics_text.specs.Exposition.{Family, Sample, exposition, family_text, help_text, sample_text, samples_text, type_text}

pub samples_text-append : (name : List ℕ) (labels : List (List ℕ)) (a b : List Sample) → samples_text name labels (a ++ b) ≡ samples_text name labels a ++ samples_text name labels b
samples_text-append name labels [] b = refl
samples_text-append name labels (s ∷ a) b = ap (λ (t : List ℕ). sample_text name labels s ++ t) (samples_text-append name labels a b) ∙ sym (append_assoc (sample_text name labels s) (samples_text name labels a) (samples_text name labels b))

module _ (m : Metric) (old : List ℕ) where
  -- samples that were added, and those that come next
  pub joined : (middle new : List ℕ) (a b : List Sample) → middle ≡ old ++ lines_of m a → new ≡ middle ++ lines_of m b → new ≡ old ++ lines_of m (a ++ b)
  joined middle new a b first second =
      second ∙ ap (λ (t : List ℕ). t ++ lines_of m b) first ∙ append_assoc old (lines_of m a) (lines_of m b)
      ∙ ap (λ (t : List ℕ). old ++ t) (sym (samples_text-append m.name.now (names_of m.labels.now) a b))

  -- what is left to add once the first of it was added
  pub next : (new all : List ℕ) (one rest both : List Sample) → both ≡ one ++ rest → new ≡ old ++ lines_of m one → old ++ lines_of m both ≡ all → new ++ lines_of m rest ≡ all
  next new all one rest both is added known =
      joined new (new ++ lines_of m rest) one rest added refl ∙ ap (λ (ss : List Sample). old ++ lines_of m ss) (sym is) ∙ known

pub ruleset lines = (samples_text-append, append-nil)

exposition-none : exposition [] ≡ []
unfolding exposition
exposition-none = refl

exposition-one : (f : Family) → exposition (f ∷ []) ≡ family_text f
unfolding exposition
exposition-one f = append-nil (family_text f)

exposition-append : (a b : List Family) → exposition (a ++ b) ≡ exposition a ++ exposition b
unfolding exposition
exposition-append [] b = refl
exposition-append (f ∷ a) b = ap (λ (t : List ℕ). family_text f ++ t) (exposition-append a b) ∙ sym (append_assoc (family_text f) (exposition a) (exposition b))

-- a metric is its help, its type and its samples
pub one_family : (f : Family) (old helped typed new : List ℕ) → helped ≡ old ++ help_text f.name f.help → typed ≡ helped ++ type_text f.name f.kind
    → new ≡ typed ++ samples_text f.name f.labels f.samples → new ≡ old ++ exposition (f ∷ [])
unfolding family_text
one_family f old helped typed new help kind samples =
    let h = help_text f.name f.help in
    let t = type_text f.name f.kind in
    let s = samples_text f.name f.labels f.samples in
    samples ∙ ap (λ (x : List ℕ). x ++ s) (kind ∙ ap (λ (x : List ℕ). x ++ t) help)
    ∙ append_assoc (old ++ h) t s ∙ append_assoc old h (t ++ s) ∙ ap (λ (x : List ℕ). old ++ x) (sym (exposition-one f))

-- what is left to add once the first of it was added
pub next_families : (old new all : List ℕ) (one rest both : List Family) → both ≡ one ++ rest → new ≡ old ++ exposition one → old ++ exposition both ≡ all → new ++ exposition rest ≡ all
next_families old new all one rest both is added known =
    ap (λ (t : List ℕ). t ++ exposition rest) added ∙ append_assoc old (exposition one) (exposition rest)
    ∙ ap (λ (t : List ℕ). old ++ t) (sym (exposition-append one rest)) ∙ ap (λ (fs : List Family). old ++ exposition fs) (sym is) ∙ known

-- nothing is left to add
pub no_families : (text all : List ℕ) (fs : List Family) → fs ≡ [] → text ++ exposition fs ≡ all → text ≡ all
no_families text all fs none known =
    sym (append-nil text) ∙ ap (λ (t : List ℕ). text ++ t) (sym exposition-none) ∙ ap (λ (x : List Family). text ++ exposition x) (sym none) ∙ known

-- three lists of metrics, one after the other
pub three : (none first second third : List ℕ) (a b c : List Family) → none ≡ [] → first ≡ none ++ exposition a → second ≡ first ++ exposition b → third ≡ second ++ exposition c
    → third ≡ exposition (a ++ (b ++ c))
three none first second third a b c empty one two more =
    more ∙ ap (λ (t : List ℕ). t ++ exposition c) (two ∙ ap (λ (t : List ℕ). t ++ exposition b) (one ∙ ap (λ (t : List ℕ). t ++ exposition a) empty))
    ∙ append_assoc (exposition a) (exposition b) (exposition c)
    ∙ ap (λ (t : List ℕ). exposition a ++ t) (sym (exposition-append b c)) ∙ sym (exposition-append a (b ++ c))
