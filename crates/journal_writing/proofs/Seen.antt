-- What is seen of the kept steps is seen of all steps.
use Rattle.std.proofs.Common.{◌≡◌, ℕ, ◌+◌, ◌-◌, ◌≤◌, min, List, [], ◌++◌, length, take, drop, sym, ap, ◌∙◌, arith}
use Rattle.std.proofs.Math.ListN.{drop_of_length-le}
use Rattle.std.proofs.Math.Seq.{drop-append-add}
use Rattle.std.proofs.lemmas.List.{take_min}
use Rattle.history_core.specs.Histories.{Content, Start}
use Rattle.history_core.specs.declared.step.Step.{Step}
use Rattle.history_seats.specs.Past.{AreAll}
use Rattle.journal_writing.specs.Steps.{SeesFrom, most_seen}

-- the kept steps from a place on are all steps from there on
pub from_place : (from : ℕ) (d : Content) (all : List Step) → AreAll d all → d.rolled ≤ from → drop (from - d.rolled) d.history ≡ drop from all
from_place from d all are begun =
    let n : ℕ = from - d.rolled in
    let none_before : d.start.steps ≡ 0 = ap (λ (start : Start). start.steps) are.starts in
    let whole : length are.before + n ≡ from = omega (arith, are.past.steps, none_before) in
    sym (drop-append-add are.before d.history n) ∙ ap (λ (k : ℕ). drop k (are.before ++ d.history)) whole ∙ ap (drop from) are.split

pub of_all : (from : ℕ) (d : Content) (all seen : List Step) → AreAll d all → (d.rolled ≤ from) × (seen ≡ take most_seen (drop (from - d.rolled) d.history)) → seen ≡ take most_seen (drop from all)
of_all from d all seen are sees = sees.1 ∙ ap (take most_seen) (from_place from d all are sees.0)

-- ---- parts of a list

pub first_many : (k : ℕ) (xs : List Step) → k ≡ min (length xs) 512 → take k xs ≡ take 512 xs
first_many k xs is =
    let turned : k ≡ min 512 (length xs) = omega arith in
    ap (λ (n : ℕ). take n xs) turned ∙ take_min 512 xs

pub none_left : (n : ℕ) (xs : List Step) → length xs ≤ n → [] ≡ drop n xs
none_left n xs past = sym (drop_of_length-le xs past)
