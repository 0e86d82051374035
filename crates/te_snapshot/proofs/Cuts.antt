-- Lists cut out of one list, when that grows and when its elements change.
use Rattle.std.proofs.Common.{◌≡◌, ◌≤◌, ◌<◌, ◌+◌, ◌-◌, ℕ, zero, suc, List, [], ◌∷◌, ◌++◌, All, length, map, take, drop, slice_range, get_or, refl, ap, ◌∙◌, arith}
use Rattle.std.specs.List.{take-map, drop-map}
use Rattle.std.specs.declared.vec.Vec.{Vec}
use Rattle.std.specs.declared.alloc.Global.{Global}
use Rattle.std.proofs.lemmas.List.{take-append-le, drop-append-le, length-drop}
use Rattle.std.proofs.lemmas.List.Elements.{All-head, All-tail, All-weaker}
use Rattle.te_snapshot.specs.declared.spans.Span.{Span}
use Rattle.te_snapshot.specs.declared.outgoing.Outgoing.{Outgoing}
use Rattle.te_snapshot.specs.Leaving.{listed}
use Rattle.te_snapshot.specs.Spans.{IsWithin, cut, list_of}

-- ---- the list grows

pub within-more : (n m : ℕ) (spans : List Span) → n ≤ m → All (IsWithin n) spans → All (IsWithin m) spans
within-more n m spans le all = All-weaker (IsWithin n) (IsWithin m) (λ s is. record { start = is.start; end = omega (arith, is.end) }) spans all

cut-append : (arcs more : List Outgoing) (s : Span) → IsWithin (length arcs) s → cut (arcs ++ more) s ≡ cut arcs s
cut-append arcs more s is =
    let long : length (drop s.start arcs) ≡ length arcs - s.start = length-drop s.start arcs in
    let start : s.start ≤ length arcs = omega (arith, is.start, is.end) in
    let enough : s.end - s.start ≤ length (drop s.start arcs) = omega (arith, is.start, is.end, long) in
    ap (take (s.end - s.start)) (drop-append-le s.start arcs more start) ∙ take-append-le (s.end - s.start) (drop s.start arcs) more enough

-- what was cut stays
pub cuts-append : (spans : List Span) (arcs more : List Outgoing) → All (IsWithin (length arcs)) spans → map (cut (arcs ++ more)) spans ≡ map (cut arcs) spans
cuts-append [] arcs more all = refl
cuts-append (s ∷ ss) arcs more all =
    ap (λ c. c ∷ map (cut (arcs ++ more)) ss) (cut-append arcs more s (All-head (IsWithin (length arcs)) s ss all))
    ∙ ap (λ cs. cut arcs s ∷ cs) (cuts-append ss arcs more (All-tail (IsWithin (length arcs)) s ss all))

drop-front : (xs ys : List Outgoing) → drop (length xs) (xs ++ ys) ≡ ys
drop-front [] ys = refl
drop-front (x ∷ xs) ys = drop-front xs ys

take-whole : (xs : List Outgoing) → take (length xs) xs ≡ xs
take-whole [] = refl
take-whole (x ∷ xs) = ap (λ ys. x ∷ ys) (take-whole xs)

-- what was added is cut
pub cut-last : (arcs more : List Outgoing) (end : ℕ) → end ≡ length arcs + length more → slice_range (arcs ++ more) (length arcs) end ≡ more
cut-last arcs more end is =
    let long : end - length arcs ≡ length more = omega (arith, is) in
    ap (take (end - length arcs)) (drop-front arcs more) ∙ ap (λ n. take n more) long ∙ take-whole more

-- ---- its elements change

cut-map : (f : Outgoing → Outgoing) (arcs : List Outgoing) (s : Span) → cut (map f arcs) s ≡ map f (cut arcs s)
cut-map f arcs s = ap (take (s.end - s.start)) (drop-map f s.start arcs) ∙ take-map f (s.end - s.start) (drop s.start arcs)

pub cuts-map : (f : Outgoing → Outgoing) (arcs : List Outgoing) (spans : List Span) → map (cut (map f arcs)) spans ≡ map (map f) (map (cut arcs) spans)
cuts-map f arcs [] = refl
cuts-map f arcs (s ∷ ss) = ap (λ c. c ∷ map (cut (map f arcs)) ss) (cut-map f arcs s) ∙ ap (λ cs. map f (cut arcs s) ∷ cs) (cuts-map f arcs ss)

-- ---- one list of many

pub cut-at : (arcs : List Outgoing) (spans : List Span) (n : ℕ) (d : Span) → n < length spans → cut arcs (get_or spans n d) ≡ list_of (map (cut arcs) spans) n
cut-at arcs [] n d lt = absurd (omega arith)
cut-at arcs (s ∷ ss) zero d lt = refl
cut-at arcs (s ∷ ss) (suc n) d lt = cut-at arcs ss n d (omega arith)

pub list_of-map : (f : Outgoing → Outgoing) (lists : List (List Outgoing)) (n : ℕ) → list_of (map (map f) lists) n ≡ map f (list_of lists n)
list_of-map f [] n = refl
list_of-map f (l ∷ ls) zero = refl
list_of-map f (l ∷ ls) (suc n) = list_of-map f ls n

pub list_of-items : (lists : List (Vec Outgoing Global)) (n : ℕ) → list_of (map (λ l. l.items) lists) n ≡ listed lists n
list_of-items [] n = refl
list_of-items (l ∷ ls) zero = refl
list_of-items (l ∷ ls) (suc n) = list_of-items ls n
