-- What stands before the appended bytes, object by object.
use Rattle.std.proofs.Common.{◌≡◌, ℕ, List, ◌++◌, length, take, ap, ◌∙◌, append_assoc}
use Rattle.std.proofs.Math.Seq.{take-length}
use Rattle.pcep_objects.proofs.Fronts as objects

pub front_same : (old new : List ℕ) → new ≡ old → take (length old) new ≡ old
front_same old new e = ap (take (length old)) e ∙ take-length old

pub front_one : (old one new : List ℕ) → new ≡ old ++ one → take (length old) new ≡ old
front_one old one new e = objects.front old one new e

pub front_two : (old one two new : List ℕ) → new ≡ (old ++ one) ++ two → take (length old) new ≡ old
front_two old one two new e = objects.front_two old one two new e

pub front_three : (old one two three new : List ℕ) → new ≡ ((old ++ one) ++ two) ++ three → take (length old) new ≡ old
front_three old one two three new e = objects.front_two old one (two ++ three) new (e ∙ append_assoc (old ++ one) two three)

pub front_four : (old one two three four new : List ℕ) → new ≡ (((old ++ one) ++ two) ++ three) ++ four → take (length old) new ≡ old
front_four old one two three four new e =
    front_three old one two (three ++ four) new (e ∙ append_assoc ((old ++ one) ++ two) three four)

pub front_again : (old more mid new : List ℕ) → mid ≡ old ++ more → take (length mid) new ≡ mid → take (length old) new ≡ old
front_again old more mid new e kept = objects.front_again old more mid new e kept
