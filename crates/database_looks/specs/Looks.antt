-- What each look sees of a database.
use Rattle.std.specs.Prelude.{ℕ, ◌≡◌, ◌≤◌, Bool, [], length, filter, map, slice_get, Option, Some, None, if◌then◌else◌}
use Rattle.te_snapshot.specs.Left.{all_left, left_on}
use Rattle.history_core.specs.Histories.{Content, steps_of, grants_of}
use Rattle.pce_seen.specs.Grants.{is_grant_asked}
use Rattle.pce_seen.specs.Lsps.{held_on}
use Rattle.pce_seen.specs.declared.lsps.LinkUse.{LinkUse}
use Rattle.pce_seen.specs.declared.peers.PeerGrants.{PeerGrants}
use Rattle.pce_seen.specs.declared.peers.PeerSession.{PeerSession}
use Rattle.pce_seen.specs.declared.seen.Book.{Book}
use Rattle.pce_seen.specs.declared.seen.Counts.{Counts}
use Rattle.pce_seen.specs.declared.seen.Numbers.{Numbers}
use Rattle.lsp_base.specs.declared.path.Path.{Path}
use Rattle.step_core.specs.declared.peer.Peer.{Peer}

-- how many there are of each kind
abbrev pub counts_in : Content → Counts
counts_in d = record {
  steps = steps_of d;
  grants = grants_of d;
  rolled = d.rolled;
  kept = length d.history;
  nodes = length d.state.te.nodes;
  links = length d.state.te.links;
  sessions_up = length (filter (λ p. p.up) d.state.peers);
  lsps = length d.state.base.records;
  paths = length d.state.base.paths;
  waiting_grants = length (filter (is_grant_asked None) d.state.base.paths);
  tickets = length d.state.tickets;
}

-- the nodes and links, and what the paths of this very content leave of each link
pub record SeesBook (d : Content) (book : Book) : Type 0 where
  pub nodes : book.nodes.items ≡ d.state.te.nodes
  pub links : book.links.items ≡ d.state.te.links
  pub left : book.left.items ≡ all_left d.state.te.links d.state.base.paths

abbrev pub session_of : Peer → PeerSession
session_of p = record { peer = p.number; is_up = p.up }

abbrev pub owner_of : Path → ℕ
owner_of x = x.peer

-- which peers are up, and whose each grant is that no report has settled
pub record SeesPeerGrants (d : Content) (seen : PeerGrants) : Type 0 where
  pub peers : seen.peers.items ≡ map session_of d.state.peers
  pub grants : seen.grants.items ≡ map owner_of (filter (is_grant_asked None) d.state.base.paths)

-- what is counted and measured of this very content
pub record SeesNumbers (d : Content) (seen : Numbers) : Type 0 where
  pub counts : seen.counts ≡ counts_in d
  pub peers : SeesPeerGrants d seen.peers
  pub book : SeesBook d seen.book

-- a link with its ends and what the paths leave of it; and what the paths over it hold, if they are listed
pub record IsUse (d : Content) (number : ℕ) (lists_paths : Bool) (seen : LinkUse) : Type 0 where
  pub link : slice_get d.state.te.links number ≡ Some seen.link
  pub from : slice_get d.state.te.nodes (seen.link).from ≡ Some seen.from
  pub to : slice_get d.state.te.nodes (seen.link).to ≡ Some seen.to
  pub left : seen.left ≡ left_on d.state.te.links d.state.base.paths number
  pub paths : seen.paths.items ≡ (if lists_paths then held_on d.state.base.paths number else [])

-- the link of a number, if there is one
abbrev pub SeesLink : ℕ → Bool → Content → Option LinkUse → Type 0
SeesLink link lists_paths d None = length d.state.te.links ≤ link
SeesLink link lists_paths d (Some seen) = IsUse d link lists_paths seen
