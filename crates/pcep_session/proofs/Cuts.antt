-- The same bytes at the same moments give the same, however they are cut.
use Rattle.std.proofs.Common.{◌≡◌, ℕ, Bool, true, false, List, [], ◌∷◌, ◌++◌, refl, sym, ap, ◌∙◌, subst}
use Rattle.std.specs.Prelude.{Some}
use Rattle.std.specs.List.{flat_map}
use Rattle.std.proofs.lemmas.List.{append-nil}
use Rattle.pcep_session.specs.Turns.{Turn, is_closed}
use Rattle.pcep_session.specs.Calls.{fed}
use Rattle.pcep_session.specs.Cuts.{Drains, NoTimerIsDue, DrainsEach, DrainsAll, Burst, bytes_of, SameBytes, CutAnyWay, fed_or_same, with_output}
use Rattle.pcep_session.specs.declared.contents.Contents.{Contents}
use Rattle.pcep_session.specs.declared.table.Input.{Input}
use Rattle.pcep_session.proofs.Pieces.{turn_of, given, rests, cut_otherwise, drains_closed}
use Rattle.pcep_session.proofs.Outputs.{drains_with, fed_with, with_again}

-- `next` is a function, so there is only one way to drain a session
drains_one : (xs ys : List Input) (c e e' : Contents) → Drains c xs e → Drains c ys e' → (xs ≡ ys) × (e ≡ e')
drains_one [] [] c e e' d d' = (refl, ap (λ (t : Turn). t.after) (sym d ∙ d'))
drains_one [] (y ∷ ys) c e e' d d' = absurd (given y (ap (λ (t : Turn). t.input) (sym d'.1 ∙ d)))
drains_one (x ∷ xs) [] c e e' d d' = absurd (given x (ap (λ (t : Turn). t.input) (sym d.1 ∙ d')))
drains_one (x ∷ xs) (y ∷ ys) c e e' d d' =
    let same : turn_of (Some x) d.0 ≡ turn_of (Some y) d'.0 = sym d.1 ∙ d'.1 in
    let mids : d'.0 ≡ d.0 = sym (ap (λ (t : Turn). t.after) same) in
    let first : Some x ≡ Some y = ap (λ (t : Turn). t.input) same in
    let heads : x ≡ y = (cc) in
    let rest = drains_one xs ys d.0 e e' d.2 (subst (λ (k : Contents). Drains k ys e') mids d'.2) in
    (ap (λ (z : Input). z ∷ xs) heads ∙ ap (λ (zs : List Input). y ∷ zs) rest.0, rest.1)

joined : (xs ys : List Input) (c m e : Contents) → Drains c xs m → Drains m ys e → Drains c (xs ++ ys) e
joined [] ys c m e d rest = subst (λ (k : Contents). Drains k ys e) (rests c m d) rest
joined (x ∷ xs) ys c m e d rest = (d.0, d.1, joined xs ys d.0 m e d.2 rest)

fed_live : (c : Contents) (p : List ℕ) (t : ℕ) → is_closed c.state ≡ false → fed_or_same p t c ≡ fed p t c
fed_live c p t live = rw (live) refl

fed_closed : (c : Contents) (p : List ℕ) (t : ℕ) → is_closed c.state ≡ true → fed_or_same p t c ≡ c
fed_closed c p t shut = rw (shut) refl

abbrev all : List (List ℕ) → List ℕ
all ps = flat_map (λ x. x) ps

-- a piece, and all that comes after it as one piece
two_pieces : (l : Bool) (t : ℕ) (p q : List ℕ) (c m e : Contents) (xs ys : List Input) → is_closed c.state ≡ l
    → Drains (fed_or_same p t c) xs m → NoTimerIsDue (fed_or_same p t c) xs → Drains (fed_or_same q t m) ys e → Drains (fed_or_same (p ++ q) t c) (xs ++ ys) e
two_pieces false t p q c m e xs ys live first b rest =
    subst (λ (k : Contents). Drains k (xs ++ ys) e) (sym (fed_live c (p ++ q) t live))
    (cut_otherwise c m e p q t xs ys live
    (subst (λ (k : Contents). Drains k xs m) (fed_live c p t live) first)
    (subst (λ (k : Contents). NoTimerIsDue k xs) (fed_live c p t live) b) rest)
two_pieces true t p q c m e xs ys shut first b rest =
    let here : Drains c xs m = subst (λ (k : Contents). Drains k xs m) (fed_closed c p t shut) first in
    let then_ : Drains m ys e = subst (λ (k : Contents). Drains k ys e) (fed_closed m q t (drains_closed xs c m shut here)) rest in
    subst (λ (k : Contents). Drains k (xs ++ ys) e) (sym (fed_closed c (p ++ q) t shut)) (joined xs ys c m e here then_)

-- the part of the output that was taken comes before the part that is left
behind_taken : (t : ℕ) (q : List ℕ) (part rest : List ℕ) (drained left e : Contents) (xs : List Input) → drained ≡ with_output part left
    → Drains (fed_or_same q t left) xs (with_output rest e) → Drains (fed_or_same q t drained) xs (with_output (part ++ rest) e)
behind_taken t q part rest drained left e xs same d =
    let moved : with_output part (fed_or_same q t left) ≡ fed_or_same q t drained = sym (fed_with q t part left) ∙ ap (fed_or_same q t) (sym same) in
    subst (λ (k : Contents). Drains (fed_or_same q t drained) xs k) (with_again part rest e)
    (subst (λ (k : Contents). Drains k xs (with_output part (with_output rest e))) moved (drains_with xs part (fed_or_same q t left) (with_output rest e) d))

-- all bytes of one moment at once
at_once : (t : ℕ) (ps : List (List ℕ)) (p : List ℕ) (c e : Contents) (xs : List Input) (taken : List ℕ) → DrainsEach t c (p ∷ ps) xs taken e
    → Drains (fed_or_same (all (p ∷ ps)) t c) xs (with_output taken e)
at_once t [] p c e xs taken (first, others, part, rest, drained, left, d, b, same, (no_more, no_rest, left_is), inputs, takes) =
    let inputs_are : xs ≡ first = inputs ∙ ap (λ (zs : List Input). first ++ zs) no_more ∙ append-nil first in
    let takes_are : taken ≡ part = takes ∙ ap (λ (o : List ℕ). part ++ o) no_rest ∙ append-nil part in
    let end_is : with_output taken e ≡ drained = ap (λ (o : List ℕ). with_output o e) takes_are ∙ ap (with_output part) left_is ∙ sym same in
    subst (λ (zs : List Input). Drains (fed_or_same (p ++ []) t c) zs (with_output taken e)) (sym inputs_are)
    (subst (λ (k : Contents). Drains (fed_or_same (p ++ []) t c) first k) (sym end_is)
    (subst (λ (bytes : List ℕ). Drains (fed_or_same bytes t c) first drained) (sym (append-nil p)) d))
at_once t (q ∷ qs) p c e xs taken (first, others, part, rest, drained, left, d, b, same, later, inputs, takes) =
    subst (λ (zs : List Input). Drains (fed_or_same (all (p ∷ q ∷ qs)) t c) zs (with_output taken e)) (sym inputs)
    (subst (λ (o : List ℕ). Drains (fed_or_same (all (p ∷ q ∷ qs)) t c) (first ++ others) (with_output o e)) (sym takes)
    (two_pieces (is_closed c.state) t p (all (q ∷ qs)) c drained (with_output (part ++ rest) e) first others refl d b
    (behind_taken t (all (q ∷ qs)) part rest drained left e others same (at_once t qs q left e others rest later))))

-- each moment's bytes come in one piece, and no output is taken
WholeDrains : Contents → List Burst → List Input → Contents → Type 0
WholeDrains c [] xs e = (xs ≡ []) × (e ≡ c)
WholeDrains c (b ∷ bs) xs e =
    (first others : List Input) × (mid : Contents) × Drains (fed_or_same (bytes_of b) b.now_ms c) first mid × WholeDrains mid bs others e × (xs ≡ first ++ others)

whole_with : (bs : List Burst) (xs : List Input) (o : List ℕ) (c e : Contents) → WholeDrains c bs xs e → WholeDrains (with_output o c) bs xs (with_output o e)
unfolding WholeDrains
whole_with [] xs o c e (none, same) = (none, ap (with_output o) same)
whole_with (b ∷ bs) xs o c e (first, others, mid, d, later, inputs) = (
  first,
  others,
  with_output o mid,
  subst (λ (k : Contents). Drains k first (with_output o mid)) (sym (fed_with (bytes_of b) b.now_ms o c)) (drains_with first o (fed_or_same (bytes_of b) b.now_ms c) mid d),
  whole_with bs others o mid e later,
  inputs,
)

whole_of : (bs : List Burst) (xs : List Input) (taken : List ℕ) (c e : Contents) → DrainsAll c bs xs taken e → WholeDrains c bs xs (with_output taken e)
unfolding WholeDrains
whole_of [] xs taken c e (none, nothing, same) = (none, ap (λ (o : List ℕ). with_output o e) nothing ∙ same)
whole_of (b ∷ bs) xs taken c e (first, others, part, rest, mid, d, later, inputs, takes) = (
  first,
  others,
  with_output part mid,
  at_once b.now_ms b.others b.first c mid first part d,
  subst (λ (k : Contents). WholeDrains (with_output part mid) bs others k) (with_again part rest e ∙ ap (λ (o : List ℕ). with_output o e) (sym takes))
      (whole_with bs others part mid (with_output rest e) (whole_of bs others rest mid e later)),
  inputs,
)

whole_one : (bs ds : List Burst) (xs ys : List Input) (c e e' : Contents) → SameBytes bs ds → WholeDrains c bs xs e → WholeDrains c ds ys e' → (xs ≡ ys) × (e ≡ e')
unfolding WholeDrains
whole_one [] [] xs ys c e e' same (none, rests_) (none', rests') = (none ∙ sym none', rests_ ∙ sym rests')
whole_one [] (d ∷ ds) xs ys c e e' same w w' = absurd same
whole_one (b ∷ bs) [] xs ys c e e' same w w' = absurd same
whole_one (b ∷ bs) (d ∷ ds) xs ys c e e' (when, bytes, same) (first, others, mid, here, later, inputs) (first', others', mid', here', later', inputs') =
    let as_here : Drains (fed_or_same (bytes_of b) b.now_ms c) first' mid' =
    subst (λ (bs : List ℕ). Drains (fed_or_same bs b.now_ms c) first' mid') (sym bytes) (subst (λ (t : ℕ). Drains (fed_or_same (bytes_of d) t c) first' mid') (sym when) here') in
    let firsts = drains_one first first' (fed_or_same (bytes_of b) b.now_ms c) mid mid' here as_here in
    let rest = whole_one bs ds others others' mid e e' same later (subst (λ (k : Contents). WholeDrains k ds others' e') (sym firsts.1) later') in
    (inputs ∙ ap (λ (zs : List Input). zs ++ others) firsts.0 ∙ ap (λ (zs : List Input). first' ++ zs) rest.0 ∙ sym inputs', rest.1)

pub any_way : CutAnyWay
any_way c e e' bs ds xs ys taken taken' same d d' =
    whole_one bs ds xs ys c (with_output taken e) (with_output taken' e') same (whole_of bs xs taken c e d) (whole_of ds ys taken' c e' d')
