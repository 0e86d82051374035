-- Where the words of a query and of a host are cut.
use Rattle.std.specs.Prelude.{ℕ, ◌+◌, ◌==◌, List, take, drop, position, Option, option_map}

-- what stands before the first such byte, and what stands after it
abbrev pub cut_at : ℕ → List ℕ → Option (List ℕ × List ℕ)
cut_at byte text = option_map (λ i. (take i text, drop (i + 1) text)) (position (λ b. b == byte) text)
