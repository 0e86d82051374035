-- `grants`: grants that stand and deletions that are awaited, in pages.
use Rattle.std.specs.Prelude.{ℕ, ◌+◌, List, [], ◌∷◌, codes, option_map, Option, Some, None, ◌≡◌, map, filter, find}
use Rattle.json.specs.Json.{Json, array, object, Items, Members, no_items, item, no_members, member, document}
use Rattle.lsp_base.specs.declared.path.Path.{Path}
use Rattle.pce_seen.specs.declared.grants.Deletion.{Deletion}
use Rattle.pce_seen.specs.declared.grants.GrantPage.{GrantPage}
use Rattle.pce_seen.specs.declared.grants.KnownGrant.{KnownGrant}
use Rattle.pce_view.specs.declared.heard.Heard.{Heard}
use Rattle.pce_view.specs.Fields.{address, name_or_null, srp_id, whole_or_null, wholes}
use Rattle.pce_view.specs.Json.{whole}
use Rattle.pce_view.specs.Unanswered.{unanswered_ms}
use Rattle.lsp_base.specs.declared.tunnel.Part.{Part}
use Rattle.lsp_base.specs.declared.tunnel.Part.TheVariants.{Reported, Granted}
use Rattle.step_core.specs.Names.{is_of_grant}
use Rattle.step_core.specs.States.{State}
use Rattle.history_core.specs.Histories.{Content, steps_of}
use Rattle.pce_seen.specs.Grants.{deletion_of, is_deletion_asked, is_grant_asked, known_grant, IsGrantSpan}
use Rattle.pce_seen.specs.Lsps.{passed}
use Rattle.asks.specs.declared.ask.Ask.{Ask}
use Rattle.asks.specs.declared.ask.Ask.TheVariants as ask
use Rattle.asks.specs.declared.ask.PeerPage.{PeerPage}
use Rattle.pce_view.specs.declared.question.ServerInfo.{ServerInfo}

-- a grant that stands, and for how long it is unanswered: the PLSP-ID is 0 and the name is that which the LSP is to have, until a report binds it to the LSP
unfoldable pub grant_json : Option ℕ → KnownGrant → Json
grant_json unanswered g = object
    (member (codes "peer") (address (g.path).peer)
    (member (codes "srp_id") (whole_or_null (srp_id (g.path).part))
    (member (codes "plsp_id") (whole (g.path).plsp)
    (member (codes "name") (name_or_null g.name)
    (member (codes "hold_priority") (whole (g.path).hold)
    (member (codes "bandwidth_bytes_per_second") (whole (g.path).bandwidth)
    (member (codes "links") (array (wholes (g.path).links))
    (member (codes "unanswered_ms") (whole_or_null unanswered)
    no_members))))))))

-- each grant from this place on, at this moment
abbrev pub grant_items : ℕ → List (Option ℕ) → ℕ → List KnownGrant → Items
grant_items now_ms since place [] = no_items
grant_items now_ms since place (g ∷ gs) = item (grant_json (unanswered_ms now_ms since place) g) (grant_items now_ms since (place + 1) gs)

-- a deletion that is awaited
unfoldable pub deletion_json : Option ℕ → Deletion → Json
deletion_json unanswered d = object
    (member (codes "peer") (address d.peer)
    (member (codes "srp_id") (whole d.srp)
    (member (codes "plsp_id") (whole d.plsp)
    (member (codes "unanswered_ms") (whole_or_null unanswered)
    no_members))))

abbrev pub deletion_items : ℕ → List (Option ℕ) → ℕ → List Deletion → Items
deletion_items now_ms since place [] = no_items
deletion_items now_ms since place (d ∷ ds) = item (deletion_json (unanswered_ms now_ms since place) d) (deletion_items now_ms since (place + 1) ds)

-- a page of both
abbrev pub grants_members : ℕ → Heard → GrantPage → Members
grants_members now_ms h page =
    member (codes "grants") (array (grant_items now_ms h.grants_since_ms.items 0 page.grants.items))
    (member (codes "deletions") (array (deletion_items now_ms h.deletions_since_ms.items 0 page.deletions.items))
    no_members)

abbrev pub grants_json : ℕ → ℕ → Heard → GrantPage → Json
grants_json from now_ms h page = object
    (member (codes "from") (whole from)
    (member (codes "next") (whole_or_null page.next)
    (member (codes "steps") (whole page.steps)
    (grants_members now_ms h page))))

abbrev pub name_by : State → ℕ → Part → Option (List ℕ)
name_by s peer (Reported id) = None
name_by s peer (Granted srp) = option_map (λ a. a.name) (find (is_of_grant peer srp) s.names)

-- the name that the LSP of a granted initiation is to have, until a report binds the grant
abbrev pub name_for : State → Path → Option (List ℕ)
name_for s x = name_by s x.peer x.part

-- a page of the grants that stand and of the deletions that are awaited
pub record SeesGrants (peer : Option ℕ) (from : ℕ) (d : Content) (seen : GrantPage) : Type 0 where
  pub grants : seen.grants.items ≡ map (known_grant (name_for d.state)) (filter (is_grant_asked peer) (passed d.state.base.paths from seen.next))
  pub deletions : seen.deletions.items ≡ map deletion_of (filter (is_deletion_asked peer) (passed d.state.base.records from seen.next))
  pub span : IsGrantSpan d.state.base peer from seen.next
  pub steps : seen.steps ≡ steps_of d

-- a reader of JSON reads the text as what was seen, with what routers said of it
abbrev pub ReadsGrants : PeerPage → ServerInfo → Heard → GrantPage → List ℕ → Type 0
ReadsGrants q info heard page text = document text ≡ Some (grants_json q.from info.uptime_ms heard page)

-- the next page of the same peer, if one follows
abbrev pub next_grants : PeerPage → GrantPage → Option Ask
next_grants q page = option_map (λ from. ask.Grants (record q { from = from })) page.next
