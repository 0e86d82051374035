-- What paths reserve, computed by the definitions on four links of 1,000,000 bytes per second.
use Rattle.std.proofs.Common.{◌≡◌, ℕ, List, [], ◌∷◌, ◌++◌, map, refl, true, false}
use Rattle.std.specs.Prelude.{ℤ, pos, negsuc, replicate}
use Rattle.lsp_base.specs.Shares.{share, reserved, unreserved, priorities, fits}
use Rattle.lsp_base.specs.Lsps.{no_lsps, changed, with_stale, effect_of}
use Rattle.lsp_base.specs.declared.tunnel.Tunnel.{Tunnel}
use Rattle.lsp_base.specs.declared.tunnel.Tunnel.TheVariants.{Signalled, Unsignalled}
use Rattle.lsp_base.specs.declared.tunnel.Part.TheVariants.{Reported}
use Rattle.lsp_base.specs.declared.path.Path.{Path}
use Rattle.te_base.specs.declared.network.Link.{Link}

abbrev link : ℕ → ℕ → Link
link from to = record { from = from; to = to; local = 0; remote = 0; igp = 10; te = 10; colour = 0; reservable = 1000000 }

-- nodes 0 to 3, joined by way of 1 and by way of 2
abbrev links : List Link
links = link 0 1 ∷ link 1 3 ∷ link 0 2 ∷ link 2 3 ∷ []

-- what is unreserved on each link, at priorities 0 to 7
abbrev book : List Path → List (List ℤ)
book paths = map (λ l. map (λ p. unreserved links paths l p) (priorities 0 7)) (0 ∷ 1 ∷ 2 ∷ 3 ∷ [])

-- links 0 and 1 as given, the others free
abbrev upper : List ℤ → List (List ℤ)
upper row = row ∷ row ∷ replicate 8 (pos 1000000) ∷ replicate 8 (pos 1000000) ∷ []

-- a path of peer 1 over links 0 and 1
abbrev path : ℕ → ℕ → Tunnel → ℕ → ℕ → Path
path plsp lsp tunnel hold bandwidth = record { peer = 1; plsp = plsp; part = Reported lsp; tunnel = tunnel; hold = hold; bandwidth = bandwidth; links = 0 ∷ 1 ∷ []; fresh = true }

abbrev first : Tunnel
first = Signalled 1 4 1 1

abbrev second : Tunnel
second = Signalled 1 4 2 1

one_path : book (path 1 1 first 0 500000 ∷ []) ≡ upper (replicate 8 (pos 500000))
unfolding share reserved unreserved
one_path = refl

-- make-before-break: the greater bandwidth of two paths of one tunnel, until its path is gone
shared_by_a_tunnel : book (path 1 1 first 0 500000 ∷ path 1 2 first 0 250000 ∷ []) ≡ upper (replicate 8 (pos 500000))
unfolding share reserved unreserved
shared_by_a_tunnel = refl

first_path_gone : book ((changed (record no_lsps { paths = path 1 1 first 0 500000 ∷ path 1 2 first 0 250000 ∷ [] }) 1 (effect_of (path 1 1 first 0 500000 ∷ []) [] [] false)).paths) ≡ upper (replicate 8 (pos 750000))
unfolding share reserved unreserved changed
first_path_gone = refl

added_by_another_tunnel : book (path 1 1 first 0 500000 ∷ path 2 1 second 0 1000000 ∷ []) ≡ upper (replicate 8 (negsuc 499999))
unfolding share reserved unreserved
added_by_another_tunnel = refl

-- a path reserves at its holding priority and at worse ones
held_at_four : book (path 1 1 first 4 600000 ∷ []) ≡ upper (replicate 4 (pos 1000000) ++ replicate 4 (pos 400000))
unfolding share reserved unreserved
held_at_four = refl

held_at_four_and_zero : book (path 1 1 first 4 500000 ∷ path 1 2 first 0 250000 ∷ []) ≡ upper (replicate 4 (pos 750000) ++ replicate 4 (pos 500000))
unfolding share reserved unreserved
held_at_four_and_zero = refl

-- an LSP that isn't signalled is a tunnel of its own
two_unsignalled : book (path 1 0 (Unsignalled 1 1) 0 500000 ∷ path 2 0 (Unsignalled 1 2) 0 500000 ∷ []) ≡ upper (replicate 8 (pos 0))
unfolding share reserved unreserved
two_unsignalled = refl

stale_still_charged : book ((with_stale (record no_lsps { paths = path 1 1 first 0 500000 ∷ [] }) 1).paths) ≡ upper (replicate 8 (pos 500000))
unfolding share reserved unreserved with_stale
stale_still_charged = refl

-- a second path of a full tunnel fits if it reserves no more; another tunnel's doesn't
fits_by_sharing : fits links (path 1 1 first 0 1000000 ∷ []) (path 1 2 first 0 1000000) 7 ≡ true
unfolding share reserved unreserved fits
fits_by_sharing = refl

no_fit_for_another : fits links (path 1 1 first 0 1000000 ∷ []) (path 2 1 second 0 1) 7 ≡ false
unfolding share reserved unreserved fits
no_fit_for_another = refl

-- a path held at a better priority fits below one held at a worse priority
fits_above_worse : fits links (path 1 1 first 5 1000000 ∷ []) (path 2 1 second 3 1000000) 4 ≡ true
unfolding share reserved unreserved fits
fits_above_worse = refl
