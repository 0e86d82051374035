-- How many bytes there must be until there is something to handle.
use Rattle.std.proofs.Common.{◌≡◌, ℕ, ◌≤◌, ◌<◌, ◌-◌, Bool, true, false, cond, List, [], ◌∷◌, ◌++◌, length, drop, refl, sym, ap, ◌∙◌, subst, arith, length-drop}
use Rattle.std.specs.Prelude.{nat_lt}
use Rattle.std.proofs.lemmas.Bool.Decides.{nat_tests}
use Rattle.std.proofs.lemmas.List.{drop-append-le}
use Rattle.pcep_session.specs.Framing.{bytes_needed, front_of, is_waiting, is_bad, message_length}
use Rattle.pcep_session.specs.declared.framing.NextMessage.TheVariants.{Waiting, Whole}
use Rattle.pcep_session.proofs.Pieces.{front_if}

abbrev needed_if : (short bad : Bool) → ℕ → ℕ
needed_if short bad n = cond short 4 (cond bad 4 n)

cut_waits : (cut : Bool) (n : ℕ) → cut ≡ is_waiting (cond cut Waiting (Whole n))
cut_waits true n = refl
cut_waits false n = refl

waits_if : (short bad : Bool) (len n : ℕ) → nat_lt len 4 ≡ short → nat_lt len (needed_if short bad n) ≡ is_waiting (front_if short bad (nat_lt len n) n)
waits_if true bad len n h = h
waits_if false true len n h = h
waits_if false false len n h = cut_waits (nat_lt len n) n

waits : (bytes : List ℕ) → nat_lt (length bytes) (bytes_needed bytes) ≡ is_waiting (front_of bytes)
unfolding bytes_needed front_of
waits bytes = waits_if (nat_lt (length bytes) 4) (is_bad bytes) (length bytes) (message_length bytes) refl

is_short : (n : ℕ) → n < 4 → nat_lt n 4 ≡ true
is_short n h = grind (arith, nat_tests)

is_long : (n : ℕ) → 4 ≤ n → nat_lt n 4 ≡ false
is_long n h = grind (arith, nat_tests)

short_needs : (bytes : List ℕ) → length bytes < 4 → bytes_needed bytes ≡ 4
unfolding bytes_needed
short_needs bytes h = rw (is_short (length bytes) h) refl

long_needs : (bytes : List ℕ) → 4 ≤ length bytes → bytes_needed bytes ≡ cond (is_bad bytes) 4 (message_length bytes)
unfolding bytes_needed
long_needs bytes h = rw (is_long (length bytes) h) refl

-- while there are too few bytes, the number needed stays the same
needed_more : (bytes more : List ℕ) → length (bytes ++ more) < bytes_needed bytes → bytes_needed (bytes ++ more) ≡ bytes_needed bytes
unfolding bytes_needed
needed_more [] more h = short_needs more h
needed_more (a ∷ []) more h = short_needs (a ∷ more) h
needed_more (a ∷ b ∷ []) more h = short_needs (a ∷ b ∷ more) h
needed_more (a ∷ b ∷ c ∷ []) more h = short_needs (a ∷ b ∷ c ∷ more) h
needed_more (a ∷ b ∷ c ∷ d ∷ bytes) more h =
    long_needs (a ∷ b ∷ c ∷ d ∷ (bytes ++ more)) (omega arith) ∙ sym (long_needs (a ∷ b ∷ c ∷ d ∷ bytes) (omega arith))

-- the same for the bytes after those that were handled
pub waits_behind : (len start needed : ℕ) (items bytes : List ℕ) → len ≡ length items → needed ≡ bytes_needed (drop start items) → drop start items ≡ bytes
    → nat_lt (len - start) needed ≡ is_waiting (front_of bytes)
waits_behind len start needed items bytes all known left =
    let count : len - start ≡ length bytes = ap (λ (n : ℕ). n - start) all ∙ sym (length-drop start items) ∙ ap length left in
    let same : needed ≡ bytes_needed bytes = known ∙ ap bytes_needed left in
    rw (count, same) (waits bytes)

pub none_needs : (items : List ℕ) → length items ≡ 0 → 4 ≡ bytes_needed items
none_needs items none = sym (short_needs items (omega arith))

pub one_more_needs : (len start needed byte : ℕ) (items new : List ℕ) → new ≡ items ++ byte ∷ [] → len ≡ length new → start ≤ length items → needed ≡ bytes_needed (drop start items)
    → len - start < needed → needed ≡ bytes_needed (drop start new)
one_more_needs len start needed byte items new pushed all within known few =
    let left : drop start new ≡ drop start items ++ byte ∷ [] = ap (drop start) pushed ∙ drop-append-le start items (byte ∷ []) within in
    let count : len - start ≡ length (drop start items ++ byte ∷ []) = ap (λ (n : ℕ). n - start) all ∙ sym (length-drop start new) ∙ ap length left in
    let short : length (drop start items ++ byte ∷ []) < bytes_needed (drop start items) = subst (λ (n : ℕ). n < bytes_needed (drop start items)) count (subst (λ (n : ℕ). len - start < n) known few) in
    known ∙ sym (needed_more (drop start items) (byte ∷ []) short) ∙ ap bytes_needed (sym left)
