-- What a router engineer would expect of all that is known.
use Rattle.std.specs.Prelude.{◌≡◌, ◌≢◌, ◌<◌, true, false, List, [], length, All, AllPairs}
use Rattle.te_base.specs.declared.network.Link.{Link}
use Rattle.lsp_base.specs.Same.{is_reported}
use Rattle.lsp_base.specs.declared.path.Path.{Path}
use Rattle.step_core.specs.States.{State, is_known}
use Rattle.step_core.specs.declared.peer.Peer.{Peer}

-- each path, each record and each awaited name is of a peer that is known
pub record AreOfKnownPeers (s : State) : Type 0 where
  pub paths : All (λ x. is_known s.peers x.peer ≡ true) s.base.paths
  pub records : All (λ r. is_known s.peers r.peer ≡ true) s.base.records
  pub names : All (λ a. is_known s.peers a.peer ≡ true) s.names

-- if the peer is down, no message waits for it, and it isn't synchronizing (RFC 8231 section 5.6)
pub record IsQuietIfDown (p : Peer) : Type 0 where
  pub outgoing : p.up ≡ false → p.outgoing ≡ []
  pub syncing : p.up ≡ false → p.syncing ≡ false

-- if the peer reported the path, its LSP has a PLSP-ID other than 0 (RFC 8231 section 7.3)
abbrev pub IsNumbered : Path → Type 0
IsNumbered x = is_reported x.part ≡ true → x.plsp ≢ 0

-- each link that the path takes is one of these, and the path takes none twice
pub record TakesLinksOnce (links : List Link) (x : Path) : Type 0 where
  pub there : All (λ l. l < length links) x.links
  pub once : AllPairs (λ l k. l ≢ k) x.links
