-- The names of granted initiations as a map holds them, each under the key of its grant.
use Rattle.std.specs.Prelude.{ℕ, ◌≡◌, ◌==◌, ◌&&◌, Bool, List}
use Rattle.std.specs.List.{AllByRecursion}
use Rattle.step_core.specs.declared.names.AwaitedName.{AwaitedName}
use Rattle.step_core.specs.declared.names.GrantKey.{GrantKey}

-- the names in order, and how many more there is room for
pub record NameRoom : Type 0 where
  pub names : List AwaitedName
  pub room : ℕ

abbrev pub same_key : GrantKey → GrantKey → Bool
same_key a b = a.peer == b.peer && a.srp == b.srp

-- the name of a grant of the peer
abbrev pub is_of_grant : ℕ → ℕ → AwaitedName → Bool
is_of_grant peer srp a = a.peer == peer && a.srp == srp

abbrev pub key_of : AwaitedName → GrantKey
key_of a = record { peer = a.peer; srp = a.srp }

-- each name is under its grant's key
abbrev pub AreKeyed : List (GrantKey × AwaitedName) → Type 0
AreKeyed entries = AllByRecursion (λ e. e.0 ≡ key_of e.1) entries
