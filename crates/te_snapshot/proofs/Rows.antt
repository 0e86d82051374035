-- What paths leave of links, and what a tunnel holds already, computed by the definitions.
use Rattle.std.proofs.Common.{◌≡◌, ℕ, List, [], ◌∷◌, ◌++◌, refl, true}
use Rattle.std.specs.Prelude.{pos, negsuc, replicate}
use Rattle.lsp_base.specs.Shares.{reserved, share, unreserved}
use Rattle.lsp_base.specs.declared.tunnel.Tunnel.{Tunnel}
use Rattle.lsp_base.specs.declared.tunnel.Tunnel.TheVariants.{Signalled, Asked}
use Rattle.lsp_base.specs.declared.tunnel.Part.TheVariants.{Reported}
use Rattle.lsp_base.specs.declared.path.Path.{Path}
use Rattle.te_snapshot.specs.declared.own.OwnShare.{OwnShare}
use Rattle.te_base.specs.declared.network.Link.{Link}
use Rattle.te_snapshot.specs.Left.{all_left}
use Rattle.te_snapshot.specs.Own.{own_shares}
use Rattle.te_snapshot.specs.Room.{own_share}

abbrev path : ℕ → Tunnel → ℕ → ℕ → List ℕ → Path
path lsp tunnel hold bandwidth links = record { peer = 1; plsp = 1; part = Reported lsp; tunnel = tunnel; hold = hold; bandwidth = bandwidth; links = links; fresh = true }

abbrev first : Tunnel
first = Signalled 1 4 1 1

abbrev second : Tunnel
second = Signalled 1 4 2 1

abbrev on : ℕ → List ℕ → OwnShare
on link shares = record { link = link; shares = shares }

-- two paths of a tunnel, the other held at 4, one of another tunnel, and one that reserves nothing
abbrev paths : List Path
paths = path 1 first 0 500000 (3 ∷ 1 ∷ []) ∷ path 2 first 4 600000 (1 ∷ 0 ∷ []) ∷ path 1 second 0 250000 (2 ∷ []) ∷ path 3 first 0 0 (2 ∷ []) ∷ []

abbrev link : ℕ → Link
link reservable = record { from = 0; to = 1; local = 0; remote = 0; igp = 10; te = 10; colour = 0; reservable = reservable }

-- what is left is below zero if more is reserved than may be; what a path holds on a missing link counts nowhere
left_by_all : all_left (link 1000000 ∷ link 550000 ∷ link 1000000 ∷ []) paths
    ≡ (replicate 4 (pos 1000000) ++ replicate 4 (pos 400000)) ∷ (replicate 4 (pos 50000) ++ replicate 4 (negsuc 49999)) ∷ replicate 8 (pos 750000) ∷ []
unfolding all_left unreserved reserved share
left_by_all = refl

-- the links are in the order of their numbers; on the common one the greater bandwidth counts, from 4 on
of_two_paths : own_shares paths first 4 ≡ on 0 (replicate 4 0 ++ replicate 4 600000) ∷ on 1 (replicate 4 500000 ++ replicate 4 600000) ∷ on 3 (replicate 8 500000) ∷ []
unfolding own_shares share
of_two_paths = refl

of_another_tunnel : own_shares paths second 4 ≡ on 2 (replicate 8 250000) ∷ []
unfolding own_shares share
of_another_tunnel = refl

of_no_path : own_shares paths (Asked 1 1) 4 ≡ []
unfolding own_shares share
of_no_path = refl

-- a link that doesn't exist isn't listed
of_three_links : own_shares paths first 3 ≡ on 0 (replicate 4 0 ++ replicate 4 600000) ∷ on 1 (replicate 4 500000 ++ replicate 4 600000) ∷ []
unfolding own_shares share
of_three_links = refl

-- on a link that isn't listed nothing is reserved
not_listed : own_share (own_shares paths first 4) 2 7 ≡ 0
unfolding own_shares share
not_listed = refl
