-- `better`: delegated LSPs for which a cheaper path is admissible, in pages.
use Rattle.std.specs.Prelude.{ℕ, ◌+◌, ◌-◌, ◌^◌, List, [], ◌∷◌, codes, option_map, Option, Some, None, ◌≡◌, false, ◌⊎◌, true, ◌++◌, length, IsPermutation, slice_get, map}
use Rattle.json.specs.Json.{Json, array, object, Items, no_items, item, no_members, member, document}
use Rattle.pce_seen.specs.declared.lsps.KnownLsp.{KnownLsp}
use Rattle.pce_seen.specs.declared.lsps.LspPage.{LspPage}
use Rattle.pce_view.specs.declared.better.BetterLsp.{BetterLsp}
use Rattle.pce_view.specs.Fields.{address, whole_or_null, wholes}
use Rattle.pce_view.specs.Json.{whole}
use Rattle.te_snapshot.specs.Network.{NetworkState, network_of}
use Rattle.pce_seen.specs.declared.moves.RerouteInput.{RerouteInput}
use Rattle.std.specs.List.Sorted.{IsNonDecreasingBy}
use Rattle.te_snapshot.specs.declared.own.OwnShare.{OwnShare}
use Rattle.path_looks.specs.Cheaper.{IsCheaper, IsUnbeaten}
use Rattle.te_snapshot.specs.Left.{state_beside}
use Rattle.history_core.specs.Histories.{Content, steps_of}
use Rattle.pce_seen.specs.Lsps.{IsPage}
use Rattle.database_looks.specs.Moves.{own_of}
use Rattle.asks.specs.declared.ask.Ask.{Ask}
use Rattle.asks.specs.declared.ask.Ask.TheVariants as ask
use Rattle.asks.specs.declared.ask.PeerPage.{PeerPage}

-- an LSP for which a cheaper path is admissible
unfoldable pub better_json : BetterLsp → Json
better_json b = object
    (member (codes "peer") (address b.peer)
    (member (codes "plsp_id") (whole b.plsp)
    (member (codes "cost") (whole (b.cheaper).standing)
    (member (codes "better_cost") (whole ((b.cheaper).path).cost)
    (member (codes "links") (array (wholes ((b.cheaper).path).links))
    no_members)))))

abbrev pub better_items : List BetterLsp → Items
better_items [] = no_items
better_items (b ∷ bs) = item (better_json b) (better_items bs)

abbrev pub better_page_json : ℕ → LspPage → List BetterLsp → Json
better_page_json from page found = object
    (member (codes "from") (whole from)
    (member (codes "next") (whole_or_null page.next)
    (member (codes "steps") (whole page.steps)
    (member (codes "better") (array (better_items found))
    no_members))))

-- the LSP is delegated, and there is a path for it that costs less than each of its paths, and that is admissible if what its
-- tunnel holds already counts as free for it
pub record IsBetterFor (s : NetworkState) (lsp : KnownLsp) (own : List OwnShare) (b : BetterLsp) : Type 0 where
  pub peer : b.peer ≡ (lsp.known).peer
  pub plsp : b.plsp ≡ (lsp.known).plsp
  pub delegated : ((lsp.known).lsp).delegated ≡ true
  pub cheaper : IsCheaper s ((lsp.known).lsp).constraints own lsp.paths b.cheaper

-- the LSP isn't delegated, or nothing that a search answers costs less than the cheapest path that it has
abbrev pub IsBestFor : NetworkState → KnownLsp → List OwnShare → Type 0
IsBestFor s lsp own = (((lsp.known).lsp).delegated ≡ false) ⊎ IsUnbeaten s ((lsp.known).lsp).constraints own lsp.paths

abbrev pub IsBetterBy : NetworkState → Option KnownLsp → Option (List OwnShare) → BetterLsp → Type 0
IsBetterBy s (Some lsp) (Some own) b = IsBetterFor s lsp own b
IsBetterBy s None own b = ⊥
IsBetterBy s (Some lsp) None b = ⊥

abbrev pub IsBestBy : NetworkState → Option KnownLsp → Option (List OwnShare) → Type 0
IsBestBy s (Some lsp) (Some own) = IsBestFor s lsp own
IsBestBy s None own = Unit {0}
IsBestBy s (Some lsp) None = Unit {0}

-- the same of the LSP at a place of the page, and of what its tunnel holds
abbrev pub IsBetterAt : RerouteInput → ℕ → BetterLsp → Type 0
IsBetterAt m place b = IsBetterBy m.snapshot (slice_get (m.page).lsps.items place) (slice_get m.own.items place) b

abbrev pub IsBestAt : RerouteInput → ℕ → Type 0
IsBestAt m place = IsBestBy m.snapshot (slice_get (m.page).lsps.items place) (slice_get m.own.items place)

-- of the first n LSPs of the page those for which there is a cheaper path
pub data Listed (m : RerouteInput) : ℕ → List BetterLsp → Type 0 where
  Begins : Listed m 0 []
  Adds : (n : ℕ) (bs : List BetterLsp) (b : BetterLsp) → Listed m n bs → IsBetterAt m n b → Listed m (n + 1) (bs ++ b ∷ [])
  Passes : (n : ℕ) (bs : List BetterLsp) → Listed m n bs → IsBestAt m n → Listed m (n + 1) bs

-- what is missing to the greatest gain
abbrev pub missing_gain : BetterLsp → ℕ
missing_gain b = 2 ^ 64 - 1 - ((b.cheaper).standing - ((b.cheaper).path).cost)

-- all of them, those that gain most first
pub record IsListing (m : RerouteInput) (found : List BetterLsp) : Type 0 where
  pub listed : List BetterLsp
  pub each : Listed m (length (m.page).lsps.items) listed
  pub same : IsPermutation listed found
  pub order : IsNonDecreasingBy missing_gain found

-- the delegated LSPs of the page for which a cheaper path is admissible on what was seen, those that gain most first
pub record IsBetterText (from : ℕ) (m : RerouteInput) (text : List ℕ) : Type 0 where
  pub found : List BetterLsp
  pub listing : IsListing m found
  pub reads : document text ≡ Some (better_page_json from m.page found)

-- a page of LSPs, what the tunnel of each holds, and what the paths leave of each link
pub record SeesMovable (peer : Option ℕ) (from : ℕ) (d : Content) (seen : RerouteInput) : Type 0 where
  pub page : IsPage d.state.base peer from seen.page
  pub steps : (seen.page).steps ≡ steps_of d
  pub own : seen.own.items ≡ map (own_of d.state) (seen.page).lsps.items
  pub snapshot : seen.snapshot ≡ state_beside (network_of d.state.te) d.state.base.paths

-- the next page of the same peer, if one follows
abbrev pub next_better : PeerPage → RerouteInput → Option Ask
next_better q movable = option_map (λ from. ask.Better (record q { from = from })) (movable.page).next
