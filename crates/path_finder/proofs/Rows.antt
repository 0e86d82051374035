-- Rows of least costs by numbers of links.
use Rattle.std.proofs.Common.{◌≡◌, ◌⊎◌, ℕ, ◌+◌, ◌^◌, ◌<◌, ◌≤◌, List, [], ◌∷◌, ◌++◌, length, slice_index, Some, refl, sym, ap, subst, ◌∙◌, arith, inl, inr, length-append}
use Rattle.std.specs.List.{slice_get}
use Rattle.std.proofs.lemmas.Bool.{cases_lt, cases_eq}
use Rattle.std.proofs.lemmas.Option.{same_Some}
use Rattle.te_base.specs.declared.network.Link.{Link}
use Rattle.path_finder.specs.declared.query.Query.{Query}
use Rattle.path_finder.specs.Passing.{toll}
use Rattle.path_finder.specs.Walks.{InRange, Leads, IsFirst, IsMade, IsNext, Reaches, IsBelow, IsFront, IsLeastWalk, NoneWithin}

pub reaches_more : (q : Query) (links : List Link) (old before after : List ℕ) (limit k : ℕ) (l : Link) → slice_get links k ≡ Some l → ((v : ℕ) → slice_index after v ≤ slice_index before v) → Reaches q old after limit k l → ((n : ℕ) (m : Link) → n < k → slice_get links n ≡ Some m → Reaches q old before limit n m) → (n : ℕ) (m : Link) → n < k + 1 → slice_get links n ≡ Some m → Reaches q old after limit n m
reaches_more q links old before after limit k l here below step earlier n m less at price pass under =
    elim (cases_eq n k) [
      | inl same ↦ (
          let there : slice_get links k ≡ Some m = ap (slice_get links) (sym same) ∙ at in
          let ml : m ≡ l = same_Some m l (sym there ∙ here) in
          let open2 : toll q k l ≡ Some price = cc (pass, same, ml) in
          let to : slice_index old m.to ≡ slice_index old l.to = ap (λ (x : Link). slice_index old x.to) ml in
          let from : slice_index after m.from ≡ slice_index after l.from = ap (λ (x : Link). slice_index after x.from) ml in
          let done = step price open2 (omega arith) in
          omega arith)
      | inr other ↦ (
          let done = earlier n m (omega arith) at price pass under in
          let lower = below m.from in
          omega arith)
    ]

pub made_more : (q : Query) (links : List Link) (old before after : List ℕ) (k : ℕ) (l : Link) → slice_get links k ≡ Some l → ((v : ℕ) → (slice_index after v ≡ slice_index before v) ⊎ ((v ≡ l.from) × (price : ℕ) × (toll q k l ≡ Some price) × (slice_index after v ≡ price + slice_index old l.to))) → ((v : ℕ) → (slice_index before v ≡ slice_index old v) ⊎ IsMade q links old v (slice_index before v)) → (v : ℕ) → (slice_index after v ≡ slice_index old v) ⊎ IsMade q links old v (slice_index after v)
made_more q links old before after k l here step earlier v =
    elim (step v) [
      | inl same ↦ (elim (earlier v) [
        | inl e ↦ inl (same ∙ e)
        | inr m ↦ inr (record { n = m.n; link = m.link; price = m.price; here = m.here; from = m.from; passes = m.passes; sum = same ∙ m.sum })
      ])
      | inr s ↦ inr (record { n = k; link = l; price = s.1; here = here; from = sym s.0; passes = s.2; sum = s.3 })
    ]

pub below_first : (q : Query) (links : List Link) (destination limit : ℕ) (row : List ℕ) → IsFirst row destination limit → IsBelow q links destination limit row 0
below_first q links destination limit row first = record { each = λ v ns cost h under few. go v ns cost h under few }
  where
    go : (v : ℕ) (ns : List ℕ) (cost : ℕ) → Leads q links v ns destination cost → cost < limit → length ns ≤ 0 → slice_index row v ≤ cost
    go v [] cost h under few = let e : slice_index row v ≡ slice_index row destination = ap (slice_index row) h.0 in omega (arith, first.here)
    go v (n ∷ ns) cost h under few = absurd (omega arith)

-- walks with one link more in front are bounded by the next row
one_more : (q : Query) (links : List Link) (destination limit most : ℕ) (old new : List ℕ) → IsNext q links old new limit → ((v : ℕ) (ns : List ℕ) (cost : ℕ) → Leads q links v ns destination cost → cost < limit → length ns ≤ most → slice_index old v ≤ cost) → (v : ℕ) (ns : List ℕ) (cost : ℕ) → Leads q links v ns destination cost → cost < limit → length ns ≤ most + 1 → slice_index new v ≤ cost
one_more q links destination limit most old new next below v [] cost h under few =
    let k = below v [] cost h under (omega arith) in
    let m = next.below v in
    omega arith
one_more q links destination limit most old new next below v (n ∷ ns) cost h under few =
    let sum : cost ≡ h.1 + h.2 = h.7 in
    let rest = below h.0.to ns h.2 h.6 (omega arith) (omega arith) in
    let step = next.reaches n h.0 h.3 h.1 h.5 (omega arith) in
    let from : slice_index new h.0.from ≡ slice_index new v = ap (slice_index new) h.4 in
    omega arith

pub below_next : (q : Query) (links : List Link) (destination limit most : ℕ) (old new : List ℕ) → IsNext q links old new limit → IsBelow q links destination limit old most → IsBelow q links destination limit new (most + 1)
below_next q links destination limit most old new next below = record { each = one_more q links destination limit most old new next below.each }

-- if no cost falls any more, the row bounds walks of any number of links
pub below_all : (q : Query) (links : List Link) (destination limit most : ℕ) (row : List ℕ) → IsNext q links row row limit → IsBelow q links destination limit row most → (v : ℕ) (ns : List ℕ) (cost : ℕ) → Leads q links v ns destination cost → cost < limit → slice_index row v ≤ cost
below_all q links destination limit most row next below v [] cost h under = below.each v [] cost h under (omega arith)
below_all q links destination limit most row next below v (n ∷ ns) cost h under =
    let sum : cost ≡ h.1 + h.2 = h.7 in
    let rest = below_all q links destination limit most row next below h.0.to ns h.2 h.6 (omega arith) in
    let step = next.reaches n h.0 h.3 h.1 h.5 (omega arith) in
    let from : slice_index row h.0.from ≡ slice_index row v = ap (slice_index row) h.4 in
    omega arith

-- a walk with one link more at its end
pub leads_more : (q : Query) (links : List Link) (a : ℕ) (ns : List ℕ) (b paid n : ℕ) (l : Link) (price to : ℕ) → Leads q links a ns b paid → slice_get links n ≡ Some l → l.from ≡ b → l.to ≡ to → toll q n l ≡ Some price → Leads q links a (ns ++ n ∷ []) to (paid + price)
leads_more q links a [] b paid n l price to h here from ends pass =
    let zero : paid ≡ 0 = h.1 in
    (l, price, 0, here, from ∙ sym h.0, pass, (ends, refl), omega arith)
leads_more q links a (m ∷ ns) b paid n l price to h here from ends pass =
    let sum : paid ≡ h.1 + h.2 = h.7 in
    (h.0, h.1, h.2 + price, h.3, h.4, h.5, leads_more q links h.0.to ns b h.2 n l price to h.6 here from ends pass, omega arith)

-- the front of a walk of no links
pub front_start : (q : Query) (links : List Link) (source destination limit used left : ℕ) (row : List ℕ) → source < length row → ((ns : List ℕ) (cost : ℕ) → Leads q links source ns destination cost → cost < limit → length ns ≤ used + left → slice_index row source ≤ cost) → IsFront q links source destination limit row used left [] source 0
front_start q links source destination limit used left row inside below = record {
  inside = inside;
  leads = (refl, refl);
  short = omega arith;
  small = omega arith;
  least = λ ns cost h under few. (let k = below ns cost h under few in omega arith);
}

pub front_kept : (q : Query) (links : List Link) (source destination limit used left : ℕ) (row next : List ℕ) (path : List ℕ) (at paid : ℕ) → length next ≡ length row → slice_index next at ≡ slice_index row at → IsFront q links source destination limit next (used + 1) left path at paid → IsFront q links source destination limit row used (left + 1) path at paid
front_kept q links source destination limit used left row next path at paid size same f = record {
  inside = (let i = f.inside in omega arith);
  leads = f.leads;
  short = (let i = f.short in omega arith);
  small = (let i = f.small in omega arith);
  least = λ ns cost h under few. (let k = f.least ns cost h under (omega arith) in omega arith);
}

pub front_taken : (q : Query) (links : List Link) (source destination limit used left : ℕ) (row next : List ℕ) (path : List ℕ) (at paid n : ℕ) (l : Link) (price to : ℕ) → to < length row → slice_get links n ≡ Some l → l.from ≡ at → l.to ≡ to → toll q n l ≡ Some price → price < 2 ^ 24 → slice_index next at ≡ price + slice_index row to → IsFront q links source destination limit next (used + 1) left path at paid → IsFront q links source destination limit row used (left + 1) (path ++ n ∷ []) to (paid + price)
front_taken q links source destination limit used left row next path at paid n l price to inside here from ends pass small sum f = record {
  inside = inside;
  leads = leads_more q links source path at paid n l price to f.leads here from ends pass;
  short = (let i = f.short in omega (arith, length-append path (n ∷ [])));
  small = (let i = f.small in omega arith);
  least = λ ns cost h under few. (let k = f.least ns cost h under (omega arith) in omega arith);
}

pub in_range_of : (links : List Link) (row next : List ℕ) → length next ≡ length row → InRange links (length row) → InRange links (length next)
in_range_of links row next size h = subst (InRange links) (sym size) h

-- the round changed nothing
pub front_at_rest : (q : Query) (links : List Link) (source destination limit used left : ℕ) (row next path : List ℕ) → source < length row → next ≡ row → path ≡ [] → IsNext q links row next limit → IsBelow q links destination limit row used → IsFront q links source destination limit row used left path source 0
front_at_rest q links source destination limit used left row next path inside same none step below =
    let step2 : IsNext q links row row limit = subst (λ (r : List ℕ). IsNext q links row r limit) same step in
    subst (λ (p : List ℕ). IsFront q links source destination limit row used left p source 0) (sym none)
    (front_start q links source destination limit used left row inside (λ ns cost h under few. below_all q links destination limit used row step2 below source ns cost h under))

pub front_found : (q : Query) (links : List Link) (source destination limit hops : ℕ) (row path : List ℕ) (at paid : ℕ) → IsFirst row destination limit → IsFront q links source destination limit row 0 hops path at paid → paid + slice_index row at < limit → IsLeastWalk q links source destination limit hops path (paid + slice_index row at)
front_found q links source destination limit hops row path at paid first f under =
    elim (cases_eq at destination) [
      | inl same ↦ (
          let zero : slice_index row at ≡ 0 = ap (slice_index row) same ∙ first.here in
          let total : paid ≡ paid + slice_index row at = omega arith in
          let there : Leads q links source path at (paid + slice_index row at) = subst (λ (k : ℕ). Leads q links source path at k) total f.leads in
          let leads : Leads q links source path destination (paid + slice_index row at) = subst (λ (k : ℕ). Leads q links source path k (paid + slice_index row at)) same there in
          record {
            leads = leads;
            short = f.short;
            under = under;
            least = λ ns other h few. elim (cases_lt other limit) [
              | inl less ↦ f.least ns other h less (omega arith)
              | inr more ↦ omega arith
            ];
          })
      | inr other ↦ (let far = first.elsewhere at f.inside other in absurd (omega arith))
    ]

pub none_found : (q : Query) (links : List Link) (source destination limit hops : ℕ) (row path : List ℕ) (at paid : ℕ) → IsFront q links source destination limit row 0 hops path at paid → limit ≤ paid + slice_index row at → NoneWithin q links source destination limit hops
none_found q links source destination limit hops row path at paid f over = record {
  each = λ ns cost h few. elim (cases_lt cost limit) [
    | inl less ↦ (let k = f.least ns cost h less (omega arith) in absurd (omega arith))
    | inr more ↦ more
  ];
}
