-- If labels rise by no more than the toll along any link, they bound the cost of each walk.
use Rattle.std.proofs.Common.{◌≡◌, ℕ, ◌+◌, ◌<◌, ◌≤◌, List, [], ◌∷◌, length, slice_index, All, Some, None, cond, refl, ap, subst, ◌∙◌, arith, inl, inr}
use Rattle.std.proofs.lemmas.Bool.{cases_lt}
use Rattle.std.specs.List.{slice_get}
use Rattle.std.proofs.Math.ListN.{get_or}
use Rattle.std.proofs.lemmas.Option.{slice_get_within, get_or_from_slice_get}
use Rattle.te_base.specs.Ted.{IsLinkAmong}
use Rattle.te_snapshot.specs.Leaving.{arc_of, turned}
use Rattle.te_snapshot.proofs.Arcs.{leaving_has, entering_has}
use Rattle.te_base.specs.declared.network.Link.{Link}
use Rattle.lsp_words.specs.declared.object.MetricType.{MetricType}
use Rattle.lsp_words.specs.declared.object.MetricType.TheVariants.{Te, Igp, Hops}
use Rattle.te_snapshot.specs.Admissible.{is_open}
use Rattle.path_finder.specs.declared.query.Query.{Query}
use Rattle.path_finder.specs.Passing.{arc_metric, fee, toll}
use Rattle.path_finder.specs.Walks.{InRange, HasMetrics, Leads, RisesFrom, RisesInto, IsRelaxedAt, IsRelaxed, NoneCheaper}

pub in_range_at : (links : List Link) (nodes n : ℕ) (l : Link) → InRange links nodes → slice_get links n ≡ Some l → (l.from < nodes) × (l.to < nodes)
in_range_at links nodes n l inside here =
    let same : get_or links n l ≡ l = get_or_from_slice_get links n l l here in
    subst (λ (x : Link). (x.from < nodes) × (x.to < nodes)) same (inside n l (slice_get_within links n l here))

pub in_range : (nodes : ℕ) (links : List Link) → All (IsLinkAmong nodes) links → InRange links nodes
in_range nodes links h = λ k d lt. (let l = h k d lt in (l.from, l.to))

pub has_metrics : (nodes : ℕ) (links : List Link) → All (IsLinkAmong nodes) links → HasMetrics links
has_metrics nodes links h = λ k d lt. (let l = h k d lt in (l.te_positive, l.te_small, l.igp_positive, l.igp_small))

pub label_below : (q : Query) (links : List Link) (labels : List ℕ) → IsRelaxed q links labels → (a : ℕ) (ns : List ℕ) (b cost : ℕ) → Leads q links a ns b cost → slice_index labels b ≤ slice_index labels a + cost
label_below q links labels r a [] b cost h =
    let e : slice_index labels a ≡ slice_index labels b = ap (slice_index labels) h.0 in omega arith
label_below q links labels r a (n ∷ ns) b cost h =
    let from : slice_index labels h.0.from ≡ slice_index labels a = ap (slice_index labels) h.4 in
    let sum : cost ≡ h.1 + h.2 = h.7 in
    let step : slice_index labels h.0.to ≤ slice_index labels h.0.from + h.1 = r.each n h.0 h.1 h.3 h.5 in
    let more = label_below q links labels r h.0.to ns b h.2 h.6 in
    omega arith

pub none_cheaper : (q : Query) (links : List Link) (labels : List ℕ) (a b limit : ℕ) → slice_index labels a ≡ 0 → limit ≤ slice_index labels b → IsRelaxed q links labels → NoneCheaper q links a b limit
none_cheaper q links labels a b limit start far r ns cost h =
    let k = label_below q links labels r a ns b cost h in omega arith

metric_turned : (m : MetricType) (n : ℕ) (l : Link) → arc_metric m (arc_of n (turned l)) ≡ arc_metric m (arc_of n l)
metric_turned Te n l = refl
metric_turned Igp n l = refl
metric_turned Hops n l = refl

-- a link costs the same if it is turned round
fee_turned : (q : Query) (n : ℕ) (l : Link) → fee q (arc_of n (turned l)) ≡ toll q n l
unfolding fee
fee_turned q n l = ap (λ (price : ℕ). cond (is_open q.unreserved.now q.constraints.now q.own.now n l.colour) (Some price) None) (metric_turned q.constraints.now.minimise n l)

-- if P holds of each number below n and of n, it holds of each number below n + 1
pub below_next : (P : ℕ → Type 0) (n : ℕ) → ((v : ℕ) → v < n → P v) → P n → (v : ℕ) → v < n + 1 → P v
below_next P n below here v under =
    elim (cases_lt v n) [
      | inl less ↦ below v less
      | inr more ↦ (let same : n ≡ v = omega arith in subst P same here)
    ]

-- labels that pass the test at each node pass it along each link
pub relaxed_of : (q : Query) (links : List Link) (labels : List ℕ) (middle : ℕ) → InRange links (length labels) → ((v : ℕ) → v < length labels → IsRelaxedAt q links labels middle v) → IsRelaxed q links labels
relaxed_of q links labels middle inside tested = record {
  each = λ n l price here pass.
      (let ends = in_range_at links (length labels) n l inside here in
      let from = slice_index labels l.from in
      let to = slice_index labels l.to in
      elim (cases_lt (slice_index labels l.from) middle) [
        | inl below ↦ leaving_has (RisesFrom q labels (slice_index labels l.from)) links n l here ((tested l.from ends.0).from below) price pass
        | inr above ↦ elim (cases_lt middle (slice_index labels l.to)) [
          | inl over ↦ entering_has (RisesInto q labels (slice_index labels l.to)) links n l here ((tested l.to ends.1).into over) price (fee_turned q n l ∙ pass)
          | inr under ↦ omega arith
        ]
      ]);
}
