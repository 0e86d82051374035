-- The same bytes at the same moments, cut into other pieces.
use Rattle.std.specs.Prelude.{◌≡◌, ◌≢◌, ℕ, List, [], ◌∷◌, ◌++◌, Some, None}
use Rattle.std.specs.List.{flat_map}
use Rattle.pcep_session.specs.Framing.{front_of}
use Rattle.pcep_session.specs.Turns.{next}
use Rattle.pcep_session.specs.Calls.{fed_by}
use Rattle.pcep_session.specs.Runs.{or_same}
use Rattle.pcep_session.specs.declared.contents.Contents.{Contents}
use Rattle.pcep_session.specs.declared.framing.NextMessage.TheVariants.{Waiting}
use Rattle.pcep_session.specs.declared.table.Input.{Input}

-- `next` gives these inputs, and then None
abbrev pub Drains : Contents → List Input → Contents → Type 0
Drains c [] after = next c ≡ record { input = None; after = after }
Drains c (i ∷ is) after = (mid : Contents) × (next c ≡ record { input = Some i; after = mid }) × Drains mid is after

-- no timer is due: each of these inputs comes from bytes
abbrev pub NoTimerIsDue : Contents → List Input → Type 0
NoTimerIsDue c [] = Unit {0}
NoTimerIsDue c (i ∷ is) = (front_of c.bytes ≢ Waiting) × NoTimerIsDue (next c).after is

-- the session after `feed`; a session that has ended stays as it was
abbrev pub fed_or_same : List ℕ → ℕ → Contents → Contents
fed_or_same piece now_ms c = or_same c (fed_by piece now_ms c)

-- the same session with this output before its own
abbrev pub with_output : List ℕ → Contents → Contents
with_output output c = record c { output = output ++ c.output }

-- Pieces that come at one moment. After each of them, `next` is called until it gives None, and the output, or a part
-- of it, may be taken.
abbrev pub DrainsEach : ℕ → Contents → List (List ℕ) → List Input → List ℕ → Contents → Type 0
DrainsEach now_ms c [] inputs taken after = (inputs ≡ []) × (taken ≡ []) × (after ≡ c)
DrainsEach now_ms c (piece ∷ pieces) inputs taken after =
    (first others : List Input) × (part rest : List ℕ) × (drained left : Contents)
    × Drains (fed_or_same piece now_ms c) first drained × NoTimerIsDue (fed_or_same piece now_ms c) first
    × (drained ≡ with_output part left)
    × DrainsEach now_ms left pieces others rest after
    × (inputs ≡ first ++ others) × (taken ≡ part ++ rest)

-- bytes that come at one moment, in one piece or more
pub record Burst : Type 0 where
  pub now_ms : ℕ
  pub first : List ℕ
  pub others : List (List ℕ)

abbrev pub pieces_of : Burst → List (List ℕ)
pieces_of burst = burst.first ∷ burst.others

abbrev pub bytes_of : Burst → List ℕ
bytes_of burst = flat_map (λ piece. piece) (pieces_of burst)

abbrev pub DrainsAll : Contents → List Burst → List Input → List ℕ → Contents → Type 0
DrainsAll c [] inputs taken after = (inputs ≡ []) × (taken ≡ []) × (after ≡ c)
DrainsAll c (burst ∷ bursts) inputs taken after =
    (first others : List Input) × (part rest : List ℕ) × (mid : Contents)
    × DrainsEach burst.now_ms c (pieces_of burst) first part mid × DrainsAll mid bursts others rest after
    × (inputs ≡ first ++ others) × (taken ≡ part ++ rest)

-- the same bytes at the same moments
abbrev pub SameBytes : List Burst → List Burst → Type 0
SameBytes [] [] = Unit {0}
SameBytes [] (d ∷ ds) = ⊥
SameBytes (b ∷ bs) [] = ⊥
SameBytes (b ∷ bs) (d ∷ ds) = (b.now_ms ≡ d.now_ms) × (bytes_of b ≡ bytes_of d) × SameBytes bs ds

-- Both give the same inputs, and the same session with the same output, if all that was taken is put before it.
abbrev pub CutAnyWay : Type 0
CutAnyWay =
    (c e e' : Contents) (bs ds : List Burst) (xs ys : List Input) (taken taken' : List ℕ) → SameBytes bs ds
    → DrainsAll c bs xs taken e → DrainsAll c ds ys taken' e' → (xs ≡ ys) × (with_output taken e ≡ with_output taken' e')
