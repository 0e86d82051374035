-- Lists of links in the order of their numbers.
use Rattle.std.specs.Prelude.{⊤, ◌<◌, ℕ, ◌==◌, ◌&&◌, Bool, List, [], ◌∷◌, filter, map, nat_lt}
use Rattle.std.specs.List.{AllByRecursion, list_any}
use Rattle.lsp_base.specs.declared.path.Path.{Path}
use Rattle.lsp_base.specs.declared.tunnel.Tunnel.{Tunnel}
use Rattle.te_snapshot.specs.declared.own.OwnShare.{OwnShare}
use Rattle.te_snapshot.specs.Own.{is_something, own_share_on}

-- each number is below the later ones
abbrev pub AreRising : List ℕ → Type 0
AreRising [] = ⊤
AreRising (x ∷ xs) = AllByRecursion (λ y. x < y) xs × AreRising xs

-- whether the link is in the list
abbrev pub has_link : ℕ → List ℕ → Bool
has_link l xs = list_any (λ x. x == l) xs

-- it is on one of n links, and something is reserved
abbrev pub is_something_below : ℕ → OwnShare → Bool
is_something_below n held = nat_lt held.link n && is_something held

-- what the tunnel reserves on each of these links that is one of n and on which it reserves something
abbrev pub own_among : List Path → Tunnel → ℕ → List ℕ → List OwnShare
own_among paths t n links = filter (is_something_below n) (map (own_share_on paths t) links)
