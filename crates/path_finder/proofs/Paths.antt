-- Walks and admissible paths.
use Rattle.std.proofs.Common.{◌≡◌, ◌≢◌, ℕ, ◌+◌, ◌*◌, ◌^◌, ◌<◌, ◌≤◌, ◌==◌, ◌&&◌, ◌||◌, not, cond, List, [], ◌∷◌, length, Option, Some, None, IfSome, Bool, true, false, refl, sym, ap, subst, ◌∙◌, arith, inl, inr}
use Rattle.std.specs.List.{slice_get, list_any}
use Rattle.std.proofs.lemmas.Bool.{cases_Bool, or_cases, and_cases}
use Rattle.std.proofs.lemmas.Bool.Decides.{nat_tests}
use Rattle.std.proofs.lemmas.Option.{same_Some, none-some, slice_get_within, get_or_from_slice_get}
use Rattle.std.proofs.Math.ListN.{get_or}
use Rattle.lsp_words.specs.declared.object.MetricType.{MetricType}
use Rattle.lsp_words.specs.declared.object.MetricType.TheVariants.{Te, Igp, Hops}
use Rattle.te_base.specs.declared.network.Link.{Link}
use Rattle.te_snapshot.specs.Leaving.{arc_of}
use Rattle.te_snapshot.specs.Admissible.{IsJoined, EachOpen, is_open, metric, metric_of, cost_of, end_of, nodes_of, is_distinct, node_of, IsAdmissible, IsLeast, IsImpossible}
use Rattle.path_finder.specs.declared.query.Query.{Query}
use Rattle.path_finder.specs.Passing.{arc_metric, fee, toll}
use Rattle.path_finder.specs.Walks.{HasMetrics, Leads, IsLeastWalk, NoneWithin}
use Rattle.path_finder.specs.Limits.{limit_of, hops_of}
use Rattle.path_finder.specs.Answers.{searched}

arc_metric_is : (m : MetricType) (n : ℕ) (l : Link) → arc_metric m (arc_of n l) ≡ metric m l
arc_metric_is Te n l = refl
arc_metric_is Igp n l = refl
arc_metric_is Hops n l = refl

cond_some : (b : Bool) (x price : ℕ) → cond b (Some x) None ≡ Some price → (b ≡ true) × (price ≡ x)
cond_some true x price h = (refl, sym (same_Some x price h))
cond_some false x price h = cc

-- a path may take the link
abbrev opens : Query → ℕ → Link → Bool
opens q n l = is_open q.unreserved.now q.constraints.now q.own.now n l.colour

abbrev least_metric : Query → MetricType
least_metric q = q.constraints.now.minimise

pub toll_some : (q : Query) (n : ℕ) (l : Link) (price : ℕ) → toll q n l ≡ Some price → (opens q n l ≡ true) × (price ≡ metric (least_metric q) l)
unfolding fee
toll_some q n l price h =
    let c = cond_some (opens q n l) (arc_metric (least_metric q) (arc_of n l)) price h in
    (c.0, c.1 ∙ arc_metric_is (least_metric q) n l)

pub toll_open : (q : Query) (n : ℕ) (l : Link) → opens q n l ≡ true → toll q n l ≡ Some (metric (least_metric q) l)
unfolding fee
toll_open q n l h = ap (λ b. cond b (Some (arc_metric (least_metric q) (arc_of n l))) None) h ∙ ap (λ (k : ℕ). Some k) (arc_metric_is (least_metric q) n l)

metric_bounds : (m : MetricType) (l : Link) → (0 < l.te) × (l.te < 2 ^ 24) × (0 < l.igp) × (l.igp < 2 ^ 24) → (1 ≤ metric m l) × (metric m l < 2 ^ 24)
metric_bounds Te l h = (let k = h.0 in omega arith, h.1)
metric_bounds Igp l h = (let k = h.2 in omega arith, h.3)
metric_bounds Hops l h = (omega arith, omega arith)

pub price_bounds : (q : Query) (links : List Link) (n : ℕ) (l : Link) (price : ℕ) → HasMetrics links → slice_get links n ≡ Some l → toll q n l ≡ Some price → (1 ≤ price) × (price < 2 ^ 24)
price_bounds q links n l price h here pass =
    let same : get_or links n l ≡ l = get_or_from_slice_get links n l l here in
    let at = h n l (slice_get_within links n l here) in
    let P : Link → Type 0 = λ x. (0 < x.te) × (x.te < 2 ^ 24) × (0 < x.igp) × (x.igp < 2 ^ 24) in
    let b = metric_bounds (least_metric q) l (subst P same at) in
    let e : price ≡ metric (least_metric q) l = (toll_some q n l price pass).1 in
    (let k = b.0 in omega arith, let k = b.1 in omega arith)

pub small_cost : (q : Query) (links : List Link) (a : ℕ) (ns : List ℕ) (b cost : ℕ) → HasMetrics links → Leads q links a ns b cost → cost ≤ 2 ^ 24 * length ns
small_cost q links a [] b cost m h = let e : cost ≡ 0 = h.1 in omega arith
small_cost q links a (n ∷ ns) b cost m h =
    let sum : cost ≡ h.1 + h.2 = h.7 in
    let p = (price_bounds q links n h.0 h.1 m h.3 h.5).1 in
    let rest = small_cost q links h.0.to ns b h.2 m h.6 in
    omega arith

pub joined_of : (q : Query) (links : List Link) (a : ℕ) (ns : List ℕ) (b cost : ℕ) → Leads q links a ns b cost → IsJoined links a ns b × EachOpen links q.unreserved.now q.constraints.now q.own.now ns × (cost ≡ cost_of (least_metric q) links ns)
joined_of q links a [] b cost h = (h.0, tt, h.1)
joined_of q links a (n ∷ ns) b cost h =
    let rest = joined_of q links h.0.to ns b h.2 h.6 in
    let t = toll_some q n h.0 h.1 h.5 in
    let m : metric_of (least_metric q) (slice_get links n) ≡ metric (least_metric q) h.0 = ap (metric_of (least_metric q)) h.3 in
    let sum : cost ≡ h.1 + h.2 = h.7 in
    let price = t.1 in
    let more = rest.2 in
    ((h.0, h.3, h.4, rest.0), (h.0, h.3, t.0, rest.1), omega arith)

pub leads_of : (q : Query) (links : List Link) (a : ℕ) (ns : List ℕ) (b : ℕ) → IsJoined links a ns b → EachOpen links q.unreserved.now q.constraints.now q.own.now ns → Leads q links a ns b (cost_of (least_metric q) links ns)
leads_of q links a [] b j o = (j, refl)
leads_of q links a (n ∷ ns) b j o =
    let same : o.0 ≡ j.0 = same_Some o.0 j.0 (sym o.1 ∙ j.1) in
    let pass : opens q n j.0 ≡ true = subst (λ (l : Link). opens q n l ≡ true) same o.2 in
    (j.0, metric (least_metric q) j.0, cost_of (least_metric q) links ns, j.1, j.2, toll_open q n j.0 pass, leads_of q links j.0.to ns b j.3 o.3, ap (λ (k : Option Link). metric_of (least_metric q) k + cost_of (least_metric q) links ns) j.1)

same_from_test : (a x : ℕ) → (a == x) ≡ true → a ≡ x
same_from_test a x h = grind (arith, nat_tests)

-- if a walk passes a node, the rest of it from there is a walk
tail_from : (q : Query) (links : List Link) (x a : ℕ) (ns : List ℕ) (b cost : ℕ) → Leads q links a ns b cost → list_any (λ y. y == x) (nodes_of links a ns) ≡ true → (ms : List ℕ) × (d : ℕ) × Leads q links x ms b d × (d ≤ cost) × (length ms ≤ length ns)
tail_from q links x a [] b cost h any =
    elim (or_cases (a == x) false any) [
      | inl here ↦ ([], cost, (sym (same_from_test a x here) ∙ h.0, h.1), omega arith, omega arith)
      | inr none ↦ cc
    ]
tail_from q links x a (n ∷ ns) b cost h any =
    let sum : cost ≡ h.1 + h.2 = h.7 in
    let to : nodes_of links (end_of (slice_get links n)) ns ≡ nodes_of links h.0.to ns = ap (λ (o : Option Link). nodes_of links (end_of o) ns) h.3 in
    elim (or_cases (a == x) (list_any (λ y. y == x) (nodes_of links (end_of (slice_get links n)) ns)) any) [
      | inl here ↦ (n ∷ ns, cost, subst (λ (k : ℕ). Leads q links k (n ∷ ns) b cost) (same_from_test a x here) h, omega arith, omega arith)
      | inr later ↦ (
          let there : list_any (λ y. y == x) (nodes_of links h.0.to ns) ≡ true = subst (λ (l : List ℕ). list_any (λ y. y == x) l ≡ true) to later in
          let r = tail_from q links x h.0.to ns b h.2 h.6 there in
          let less = r.3 in
          let short = r.4 in
          (r.0, r.1, r.2, omega arith, omega arith))
    ]

not_false : (b : Bool) → not b ≡ false → b ≡ true
not_false true h = refl
not_false false h = cc

-- a walk that passes a node twice can be cut
pub shorter : (q : Query) (links : List Link) (a : ℕ) (ns : List ℕ) (b cost : ℕ) → HasMetrics links → Leads q links a ns b cost → is_distinct (nodes_of links a ns) ≡ false → (ms : List ℕ) × (d : ℕ) × Leads q links a ms b d × (d < cost) × (length ms ≤ length ns)
shorter q links a [] b cost m h twice = cc
shorter q links a (n ∷ ns) b cost m h twice =
    let sum : cost ≡ h.1 + h.2 = h.7 in
    let one = (price_bounds q links n h.0 h.1 m h.3 h.5).0 in
    let to : nodes_of links (end_of (slice_get links n)) ns ≡ nodes_of links h.0.to ns = ap (λ (o : Option Link). nodes_of links (end_of o) ns) h.3 in
    elim (and_cases (not (list_any (λ y. y == a) (nodes_of links (end_of (slice_get links n)) ns))) (is_distinct (nodes_of links (end_of (slice_get links n)) ns)) twice) [
      | inl again ↦ (
          let any = not_false (list_any (λ y. y == a) (nodes_of links (end_of (slice_get links n)) ns)) again in
          let there : list_any (λ y. y == a) (nodes_of links h.0.to ns) ≡ true = subst (λ (l : List ℕ). list_any (λ y. y == a) l ≡ true) to any in
          let r = tail_from q links a h.0.to ns b h.2 h.6 there in
          let less = r.3 in
          let short = r.4 in
          (r.0, r.1, r.2, omega arith, omega arith))
      | inr rest ↦ (
          let there : is_distinct (nodes_of links h.0.to ns) ≡ false = subst (λ (l : List ℕ). is_distinct l ≡ false) to rest in
          let r = shorter q links h.0.to ns b h.2 m h.6 there in
          let less = r.3 in
          let short = r.4 in
          (n ∷ r.0, h.1 + r.1, (h.0, h.1, r.1, h.3, h.4, h.5, r.2, refl), omega arith, omega arith))
    ]

-- what hops_of and limit_of stand for
within_hops : (h : Option ℕ) (n : ℕ) → n ≤ hops_of h → (n ≤ 64) × IfSome h (λ k. n ≤ k)
within_hops None n l = (l, tt)
within_hops (Some k) n l = grind (arith, nat_tests)

hops_within : (h : Option ℕ) (n : ℕ) → n ≤ 64 → IfSome h (λ k. n ≤ k) → n ≤ hops_of h
hops_within None n l b = l
hops_within (Some k) n l b = grind (arith, nat_tests)

within_limit : (b : Option ℕ) (cost : ℕ) → cost < limit_of b → IfSome b (λ k. cost ≤ k)
within_limit None cost l = tt
within_limit (Some k) cost l = grind (arith, nat_tests)

limit_within : (b : Option ℕ) (cost : ℕ) → cost < 2 ^ 31 → IfSome b (λ k. cost ≤ k) → cost < limit_of b
limit_within None cost l h = l
limit_within (Some k) cost l h = grind (arith, nat_tests)

longer_than_none : (q : Query) (links : List Link) (a : ℕ) (ns : List ℕ) (b cost : ℕ) → a ≢ b → Leads q links a ns b cost → 1 ≤ length ns
longer_than_none q links a [] b cost apart h = absurd (apart h.0)
longer_than_none q links a (n ∷ ns) b cost apart h = omega arith

distinct_least : (q : Query) (links : List Link) (source destination limit hops : ℕ) (path : List ℕ) (cost : ℕ) → HasMetrics links → IsLeastWalk q links source destination limit hops path cost → is_distinct (nodes_of links source path) ≡ true
distinct_least q links source destination limit hops path cost m w =
    elim (cases_Bool (is_distinct (nodes_of links source path))) [
      | inl once ↦ once
      | inr not_so ↦ (
          let r = shorter q links source path destination cost m w.leads not_so in
          let less = r.3 in
          let short = r.4 in
          let all = w.short in
          let k = w.least r.0 r.1 r.2 (omega arith) in
          absurd (omega arith))
    ]

-- if a path of at most 64 links keeps the bound, its cost is below the limit
under_limit : (q : Query) (links : List Link) (source destination : ℕ) (path : List ℕ) → HasMetrics links → IsJoined links source path destination → EachOpen links q.unreserved.now q.constraints.now q.own.now path → length path ≤ 64 → IfSome q.constraints.now.bound (λ b. cost_of (least_metric q) links path ≤ b) → cost_of (least_metric q) links path < limit_of q.constraints.now.bound
under_limit q links source destination path m joined each few bound =
    let h = leads_of q links source path destination joined each in
    let k = small_cost q links source path destination (cost_of (least_metric q) links path) m h in
    limit_within q.constraints.now.bound (cost_of (least_metric q) links path) (omega arith) bound

-- ---- ends

-- the node of an end
abbrev end_node : Query → Option ℕ → Option ℕ
end_node q end = node_of q.topology.now.owners end

joined_between : (q : Query) (source destination : ℕ) (path : List ℕ) → end_node q q.constraints.now.source ≡ Some source → end_node q q.constraints.now.destination ≡ Some destination → IsAdmissible (searched q) q.constraints.now q.own.now path → IsJoined q.topology.now.links source path destination
joined_between q source destination path from to a =
    let start : a.source ≡ source = same_Some a.source source (sym a.from ∙ from) in
    let end : a.destination ≡ destination = same_Some a.destination destination (sym a.to ∙ to) in
    subst (λ (b : ℕ). IsJoined q.topology.now.links source path b) end (subst (λ (k : ℕ). IsJoined q.topology.now.links k path a.destination) start a.joined)

leads_between : (q : Query) (source destination : ℕ) (path : List ℕ) → end_node q q.constraints.now.source ≡ Some source → end_node q q.constraints.now.destination ≡ Some destination → IsAdmissible (searched q) q.constraints.now q.own.now path → Leads q q.topology.now.links source path destination (cost_of (least_metric q) q.topology.now.links path)
leads_between q source destination path from to a = leads_of q q.topology.now.links source path destination (joined_between q source destination path from to a) a.each

pub least_path : (q : Query) (source destination : ℕ) (path : List ℕ) (cost : ℕ) → HasMetrics q.topology.now.links → end_node q q.constraints.now.source ≡ Some source → end_node q q.constraints.now.destination ≡ Some destination → source ≢ destination → IsLeastWalk q q.topology.now.links source destination (limit_of q.constraints.now.bound) (hops_of q.constraints.now.hop_bound) path cost → IsLeast (searched q) q.constraints.now q.own.now path cost
least_path q source destination path cost m from to apart w =
    let links = q.topology.now.links in
    let j = joined_of q links source path destination cost w.leads in
    let h = within_hops q.constraints.now.hop_bound (length path) w.short in
    let total : cost ≡ cost_of (least_metric q) links path = j.2 in
    let under : cost_of (least_metric q) links path < limit_of q.constraints.now.bound = (let u = w.under in omega arith) in
    record {
      admissible = record {
        source = source;
        destination = destination;
        from = from;
        to = to;
        joined = j.0;
        once = distinct_least q links source destination (limit_of q.constraints.now.bound) (hops_of q.constraints.now.hop_bound) path cost m w;
        some = longer_than_none q links source path destination cost apart w.leads;
        few = h.0;
        hops = h.1;
        each = j.1;
        cost = within_limit q.constraints.now.bound (cost_of (least_metric q) links path) under;
      };
      total = total;
      least = λ other a. w.least other (cost_of (least_metric q) links other) (leads_between q source destination other from to a) (hops_within q.constraints.now.hop_bound (length other) a.few a.hops);
    }

pub no_path : (q : Query) (source destination : ℕ) → HasMetrics q.topology.now.links → end_node q q.constraints.now.source ≡ Some source → end_node q q.constraints.now.destination ≡ Some destination → NoneWithin q q.topology.now.links source destination (limit_of q.constraints.now.bound) (hops_of q.constraints.now.hop_bound) → IsImpossible (searched q) q.constraints.now q.own.now
no_path q source destination m from to w = record {
  none = λ path a.
      (let cost = cost_of (least_metric q) q.topology.now.links path in
      let over = w.each path cost (leads_between q source destination path from to a) (hops_within q.constraints.now.hop_bound (length path) a.few a.hops) in
      let under = under_limit q q.topology.now.links source destination path m (joined_between q source destination path from to a) a.each a.few a.cost in
      omega arith);
}

same_test : (a b : ℕ) → a ≡ b → (a == b) ≡ true
same_test a b e = grind (arith, nat_tests)

or_right : (x y : Bool) → y ≡ true → (x || y) ≡ true
or_right true y h = refl
or_right false y h = h

or_left : (x y : Bool) → x ≡ true → (x || y) ≡ true
or_left true y h = refl
or_left false y h = cc

-- a path passes the node where it ends
passes_end : (links : List Link) (a : ℕ) (ns : List ℕ) (b : ℕ) → IsJoined links a ns b → list_any (λ y. y == b) (nodes_of links a ns) ≡ true
passes_end links a [] b h = or_left (a == b) false (same_test a b h)
passes_end links a (n ∷ ns) b h =
    let to : nodes_of links (end_of (slice_get links n)) ns ≡ nodes_of links h.0.to ns = ap (λ (o : Option Link). nodes_of links (end_of o) ns) h.1 in
    let rest = passes_end links h.0.to ns b h.3 in
    or_right (a == b) (list_any (λ y. y == b) (nodes_of links (end_of (slice_get links n)) ns)) (subst (λ (l : List ℕ). list_any (λ y. y == b) l ≡ true) (sym to) rest)

and_left : (x y : Bool) → (not x && y) ≡ true → x ≡ true → ⊥
and_left true y h t = cc
and_left false y h t = cc

no_round_trip : (links : List Link) (a b : ℕ) (ns : List ℕ) → a ≡ b → IsJoined links a ns b → is_distinct (nodes_of links a ns) ≡ true → 1 ≤ length ns → ⊥
no_round_trip links a b [] e j once some = omega arith
no_round_trip links a b (n ∷ ns) e j once some =
    let to : nodes_of links (end_of (slice_get links n)) ns ≡ nodes_of links j.0.to ns = ap (λ (o : Option Link). nodes_of links (end_of o) ns) j.1 in
    let rest = passes_end links j.0.to ns b j.3 in
    let there : list_any (λ y. y == b) (nodes_of links (end_of (slice_get links n)) ns) ≡ true = subst (λ (l : List ℕ). list_any (λ y. y == b) l ≡ true) (sym to) rest in
    let at : list_any (λ y. y == a) (nodes_of links (end_of (slice_get links n)) ns) ≡ true = subst (λ (k : ℕ). list_any (λ y. y == k) (nodes_of links (end_of (slice_get links n)) ns) ≡ true) (sym e) there in
    and_left (list_any (λ y. y == a) (nodes_of links (end_of (slice_get links n)) ns)) (is_distinct (nodes_of links (end_of (slice_get links n)) ns)) once at

pub no_loop : (q : Query) (source destination : ℕ) → end_node q q.constraints.now.source ≡ Some source → end_node q q.constraints.now.destination ≡ Some destination → source ≡ destination → IsImpossible (searched q) q.constraints.now q.own.now
no_loop q source destination from to e = record {
  none = λ path a.
      (let start : a.source ≡ source = same_Some a.source source (sym a.from ∙ from) in
      let end : a.destination ≡ destination = same_Some a.destination destination (sym a.to ∙ to) in
      no_round_trip q.topology.now.links a.source a.destination path (start ∙ e ∙ sym end) a.joined a.once a.some);
}

-- if no node owns an end, nothing is admissible
pub no_source : (q : Query) → end_node q q.constraints.now.source ≡ None → IsImpossible (searched q) q.constraints.now q.own.now
no_source q none = record { none = λ path a. (let e : None ≡ Some a.source = sym none ∙ a.from in none-some a.source e) }

pub no_destination : (q : Query) → end_node q q.constraints.now.destination ≡ None → IsImpossible (searched q) q.constraints.now q.own.now
no_destination q none = record { none = λ path a. (let e : None ≡ Some a.destination = sym none ∙ a.to in none-some a.destination e) }
