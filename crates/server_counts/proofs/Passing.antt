-- Bytes inside a body only change how many are to come.
use Rattle.std.proofs.Common.{◌≡◌, ◌≢◌, ◌<◌, ◌≤◌, ◌+◌, ◌-◌, ℕ, List, [], ◌∷◌, length, take, drop, false, nat_eq, length-drop, refl, ap, sym, ◌∙◌, arith}
use Rattle.std.specs.Prelude.{nat_le}
use Rattle.std.specs.List.{fold}
use Rattle.std.proofs.lemmas.Bool.{lt-leb, ne_eqb}
use Rattle.std.proofs.lemmas.List.{drop-drop, length-take-le, take-append-drop}
use Rattle.std.proofs.lemmas.List.Sums.{fold-append}
use Rattle.server_counts.specs.declared.counters.Counters.{Counters}
use Rattle.server_counts.specs.declared.stream.MessageStream.{MessageStream}
use Rattle.server_counts.specs.declared.stream.MessageStream.TheVariants.{Body}
use Rattle.server_counts.specs.declared.stream.Way.{Way}
use Rattle.server_counts.specs.Streams.{heard}

one_more : (kind left last b : ℕ) (way : Way) (c : Counters) → kind ≢ 6 → 1 < left → heard way (Body kind left last, c) b ≡ (Body kind (left - 1) last, c)
one_more kind left last b way c other more =
    let is_more : nat_le left 1 ≡ false = lt-leb left 1 more in
    let is_other : nat_eq kind 6 ≡ false = ne_eqb kind 6 other in rw (is_more, is_other) refl

pub passes : (kind left last : ℕ) (way : Way) (c : Counters) (bs : List ℕ) → kind ≢ 6 → length bs < left → fold (heard way) (Body kind left last, c) bs ≡ (Body kind (left - length bs) last, c)
passes kind left last way c [] other less = ap (λ n. (Body kind n last, c)) (omega arith)
passes kind left last way c (b ∷ bs) other less =
    ap (λ s. fold (heard way) s bs) (one_more kind left last b way c other (omega (arith, less)))
    ∙ passes kind (left - 1) last way c bs other (omega (arith, less))
    ∙ ap (λ n. (Body kind n last, c)) (omega arith)

-- after bytes that were passed over, the rest gives what all of them give
pub goes_on : (way : Way) (s s' : MessageStream) (c : Counters) (ds : List ℕ) (at r : ℕ) → at + r ≤ length ds
    → ((bs : List ℕ) → length bs ≡ r → fold (heard way) (s, c) bs ≡ (s', c))
    → fold (heard way) (s', c) (drop (at + r) ds) ≡ fold (heard way) (s, c) (drop at ds)
goes_on way s s' c ds at r within same =
    let rest = drop at ds in
    let long : length (take r rest) ≡ r = length-take-le r rest (omega (arith, length-drop at ds, within)) in
    ap (λ xs. fold (heard way) (s', c) xs) (sym (drop-drop r at ds))
    ∙ ap (λ p. fold (heard way) p (drop r rest)) (sym (same (take r rest) long))
    ∙ sym (fold-append (heard way) (s, c) (take r rest) (drop r rest))
    ∙ ap (λ xs. fold (heard way) (s, c) xs) (take-append-drop r rest)
