use Rattle.std.proofs.Common.{◌≡◌, ◌≢◌, ℕ, ◌<◌, ◌++◌, List, ◌∷◌, length, get_or, Option, Some, None, MatchOption, Bor, lit<}
use Rattle.std.proofs.lemmas.Str.Pattern.{split_parts}
use Rattle.pcep_word.specs.Address.{cut}
use Rattle.pcep_word.proofs.Addresses.{cut_at, cut_none, plain_from}
use Rattle.pcep_word.proofs.address.cut_at_dot.Goals as goal

cuts : (text : List ℕ) (r : Option (Bor (List ℕ) × Bor (List ℕ))) → MatchOption r ((i : ℕ) → i < length text → get_or text i 0 ≢ 46) (λ x. (text ≡ x.0.now ++ (46 ∷ x.1.now)) × ((i : ℕ) → i < length x.0.now → get_or x.0.now i 0 ≢ 46)) → MatchOption r (cut text ≡ None) (λ x. cut text ≡ Some (x.0.now, x.1.now))
cuts text None h = cut_none text (plain_from text h)
cuts text (Some x) h = rw h.0 (cut_at x.0.now x.1.now (plain_from x.0.now h.1))

pub returns : goal.returns
returns c = cuts c.args.text.now c.split_once.result (split_parts 46 c.args.text.now c.split_once.result c.split_once.ensures.cases (lit< tt))
