-- Grants and awaited deletions as they are seen, in pages, and which grants a report covers.
use Rattle.std.specs.Prelude.{ℕ, ◌≡◌, ◌<◌, ◌≤◌, max, min, Bool, true, false, ◌==◌, ◌&&◌, nat_le, nat_lt, not, List, length, map, filter, take, Option, Some, None, IfSome, is_some, unwrap_or}
use Rattle.std.specs.List.{list_all, list_any}
use Rattle.lsp_base.specs.Lsps.{Lsps, is_path_of}
use Rattle.lsp_base.specs.Same.{is_reported, same_tunnel}
use Rattle.lsp_base.specs.Shares.{has_link}
use Rattle.lsp_base.specs.declared.effect.Record.{Record}
use Rattle.lsp_base.specs.declared.tunnel.Part.{Part}
use Rattle.lsp_base.specs.declared.tunnel.Part.TheVariants.{Granted, Reported}
use Rattle.lsp_base.specs.declared.path.Path.{Path}
use Rattle.pce_seen.specs.Lsps.{passed}
use Rattle.pce_seen.specs.declared.grants.Deletion.{Deletion}
use Rattle.pce_seen.specs.declared.grants.GrantPage.{GrantPage}
use Rattle.pce_seen.specs.declared.grants.KnownGrant.{KnownGrant}

-- the peer is the named one; if none is named, any peer is
abbrev pub is_named : Option ℕ → ℕ → Bool
is_named None n = true
is_named (Some peer) n = n == peer

-- a grant of the peer: it is asked for, and no report has settled it
abbrev pub is_grant_asked : Option ℕ → Path → Bool
is_grant_asked peer x = is_named peer x.peer && not (is_reported x.part)

-- an LSP of the peer whose deletion is awaited (RFC 8281 section 5.4)
abbrev pub is_deletion_asked : Option ℕ → Record → Bool
is_deletion_asked peer r = is_named peer r.peer && is_some (r.lsp).removing

abbrev pub deletion_of : Record → Deletion
deletion_of r = record { peer = r.peer; plsp = r.plsp; srp = unwrap_or (r.lsp).removing 0 }

-- a grant with the name that its LSP is to have, if it waits for one
abbrev pub known_grant : (Path → Option (List ℕ)) → Path → KnownGrant
known_grant name_of x = record { path = x; name = name_of x }

-- the items up to this place, or all
abbrev pub up_to : {X : Type 0} → List X → Option ℕ → List X
up_to xs None = xs
up_to xs (Some n) = take n xs

-- the lesser of two places; None stands after all places
abbrev pub least : Option ℕ → Option ℕ → Option ℕ
least None b = b
least (Some a) None = Some a
least (Some a) (Some b) = Some (min a b)

-- Where the page that starts at `from` ends and the next one starts. A page has at most 256 grants and 256 deletions,
-- and 256 of one kind if another page follows.
pub record IsGrantSpan (lsps : Lsps) (peer : Option ℕ) (from : ℕ) (next : Option ℕ) : Type 0 where
  pub few_grants : length (filter (is_grant_asked peer) (passed lsps.paths from next)) ≤ 256
  pub few_deletions : length (filter (is_deletion_asked peer) (passed lsps.records from next)) ≤ 256
  pub full : IfSome next (λ _. max (length (filter (is_grant_asked peer) (passed lsps.paths from next))) (length (filter (is_deletion_asked peer) (passed lsps.records from next))) ≡ 256)
  pub onward : IfSome next (λ n. from < n)
  pub inside : IfSome next (λ n. n < max (length lsps.paths) (length lsps.records))

-- ---- what a report says about a grant

-- The path, as its peer reported it, holds all that the grant holds: it is of the grant's tunnel, is on each of its links,
-- and has at least its bandwidth, at its priority or a better one.
abbrev pub covers : Path → Path → Bool
covers g x = is_reported x.part && same_tunnel x.tunnel g.tunnel && nat_le x.hold g.hold && nat_le g.bandwidth x.bandwidth && list_all (λ l. has_link l x) g.links

-- a path of the LSP that the grant is bound to covers it
abbrev pub is_covered : List Path → Path → Bool
is_covered paths g = list_any (λ x. covers g x && is_path_of g.peer g.plsp x) paths

-- the path is the grant of this SRP-ID
abbrev pub is_of_srp : ℕ → Part → Bool
is_of_srp srp (Granted n) = n == srp
is_of_srp srp (Reported lsp) = false

-- the grant of this SRP-ID is bound to this LSP, and a path of the LSP covers it
abbrev pub is_grant_covered : List Path → ℕ → ℕ → ℕ → Bool
is_grant_covered paths peer plsp srp = list_any (λ g. (is_of_srp srp g.part && is_covered paths g) && is_path_of peer plsp g) paths

-- the path was reported on links of the network: its router reports it other than DOWN (RFC 8231 section 7.3), and its
-- route is known
abbrev pub has_links : Path → Bool
has_links x = is_reported x.part && nat_lt 0 (length x.links)

abbrev pub has_way : List Path → ℕ → ℕ → Bool
has_way paths peer plsp = list_any (λ x. has_links x && is_path_of peer plsp x) paths
