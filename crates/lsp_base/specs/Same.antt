-- When two tunnels, two parts and two paths are the same, as tests.
use Rattle.std.specs.Prelude.{ℕ, Bool, true, false, ◌==◌, ◌&&◌, not, List, [], ◌∷◌}
use Rattle.lsp_base.specs.declared.tunnel.Tunnel.{Tunnel}
use Rattle.lsp_base.specs.declared.tunnel.Tunnel.TheVariants.{Signalled, Unsignalled, Asked}
use Rattle.lsp_base.specs.declared.tunnel.Part.{Part}
use Rattle.lsp_base.specs.declared.tunnel.Part.TheVariants.{Reported, Granted}
use Rattle.lsp_base.specs.declared.path.Path.{Path}

abbrev pub same_tunnel : Tunnel → Tunnel → Bool
same_tunnel (Signalled p e t x) (Signalled q f u y) = p == q && e == f && t == u && x == y
same_tunnel (Unsignalled p n) (Unsignalled q m) = p == q && n == m
same_tunnel (Asked p s) (Asked q t) = p == q && s == t
same_tunnel (Signalled p e t x) (Unsignalled q m) = false
same_tunnel (Signalled p e t x) (Asked q s) = false
same_tunnel (Unsignalled p n) (Signalled q f u y) = false
same_tunnel (Unsignalled p n) (Asked q s) = false
same_tunnel (Asked p s) (Signalled q f u y) = false
same_tunnel (Asked p s) (Unsignalled q m) = false

abbrev pub same_part : Part → Part → Bool
same_part (Reported i) (Reported j) = i == j
same_part (Granted s) (Granted t) = s == t
same_part (Reported i) (Granted t) = false
same_part (Granted s) (Reported j) = false

abbrev pub same_links : List ℕ → List ℕ → Bool
same_links [] [] = true
same_links (x ∷ xs) (y ∷ ys) = x == y && same_links xs ys
same_links [] (y ∷ ys) = false
same_links (x ∷ xs) [] = false

abbrev pub same_flag : Bool → Bool → Bool
same_flag true b = b
same_flag false b = not b

-- the paths are the same in all fields
abbrev pub same_path : Path → Path → Bool
same_path x y = x.peer == y.peer && x.plsp == y.plsp && same_part x.part y.part && same_tunnel x.tunnel y.tunnel && x.hold == y.hold && x.bandwidth == y.bandwidth && same_links x.links y.links && same_flag x.fresh y.fresh

-- the peer reported the path
abbrev pub is_reported : Part → Bool
is_reported (Reported i) = true
is_reported (Granted s) = false
