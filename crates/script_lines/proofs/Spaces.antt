-- Removing the spaces of a text without spaces leaves it as it is.
use Rattle.std.proofs.Common.{◌≡◌, ℕ, ◌||◌, Bool, true, false, List, [], ◌∷◌, refl, ap}
use Rattle.std.specs.List.{list_any}
use Rattle.asks.specs.Words.{is_space}
use Rattle.script_lines.specs.Words.{without_spaces}

abbrev Stays : List ℕ → Type 0
Stays text = list_any is_space text ≡ false → without_spaces text ≡ text

stays_at : (k : Bool) (byte : ℕ) (text : List ℕ) → is_space byte ≡ k → (k || list_any is_space text) ≡ false → Stays text → without_spaces (byte ∷ text) ≡ byte ∷ text
stays_at true byte text e h ih = absurd cc
stays_at false byte text e h ih = rw e (ap (λ (t : List ℕ). byte ∷ t) (ih h))

pub stays : (text : List ℕ) → Stays text
stays [] h = refl
stays (byte ∷ text) h = stays_at (is_space byte) byte text refl h (λ h. stays text h)
