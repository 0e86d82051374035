-- Tests whether a bandwidth fits on links. The paths of one tunnel share what they reserve on a common link, so a path
-- adds to a link only what its tunnel's share rises by (RFC 3209 section 2.4.3).
use Rattle.std.specs.Prelude.{ℕ, ℤ, pos, ◌==◌, ◌||◌, ◌-◌, Bool, nat_le, int_le, List, [], Option, Some, None, find, slice_index, slice_index_or}
use Rattle.std.specs.List.{list_all}
use Rattle.lsp_base.specs.Shares.{priorities}
use Rattle.te_snapshot.specs.declared.own.OwnShare.{OwnShare}

-- what is unreserved on a link at a priority
abbrev pub left : List (List ℤ) → ℕ → ℕ → ℤ
left unreserved l p = slice_index_or (slice_index_or unreserved l []) p (pos 0)

abbrev pub share_in : Option OwnShare → ℕ → ℕ
share_in None p = 0
share_in (Some held) p = slice_index held.shares p

-- what the tunnel holds on a link at a priority; nothing on a link that isn't listed
abbrev pub own_share : List OwnShare → ℕ → ℕ → ℕ
own_share own l p = share_in (find (λ held. held.link == l) own) p

-- a path of this bandwidth doesn't raise the share there, or what it raises the share by is left
abbrev pub has_room_at : List (List ℤ) → List OwnShare → ℕ → ℕ → ℕ → Bool
has_room_at unreserved own bandwidth l p =
    nat_le bandwidth (own_share own l p) || int_le (pos (bandwidth - own_share own l p)) (left unreserved l p)

-- the bandwidth fits on the link at each priority from holding to setup
abbrev pub has_room : List (List ℤ) → List OwnShare → ℕ → ℕ → ℕ → ℕ → Bool
has_room unreserved own bandwidth hold setup l = list_all (has_room_at unreserved own bandwidth l) (priorities hold setup)
