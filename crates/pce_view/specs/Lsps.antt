-- `lsps`: LSPs with their paths, in pages.
use Rattle.std.specs.Prelude.{ℕ, ◌+◌, List, [], ◌∷◌, codes, is_some, option_map, Option, Some, ◌≡◌, map}
use Rattle.json.specs.Json.{Json, boolean, string, array, object, Items, no_items, item, no_members, member, document}
use Rattle.hex.specs.Hex.{encode_lower}
use Rattle.lsp_base.specs.declared.path.Path.{Path}
use Rattle.pce_seen.specs.declared.lsps.KnownLsp.{KnownLsp}
use Rattle.pce_seen.specs.declared.gaps.Gap.{Gap}
use Rattle.pce_seen.specs.declared.places.PlacedPage.{PlacedPage}
use Rattle.server_rules.specs.declared.path_words.PathWords.{PathWords}
use Rattle.pce_view.specs.declared.heard.Heard.{Heard}
use Rattle.pce_view.specs.declared.notes.LspNotes.{LspNotes}
use Rattle.pce_view.specs.declared.notes.PathNotes.{PathNotes}
use Rattle.pce_view.specs.Fields.{address, address_or_null, is_down, is_granted, lsp_id, refusal_words, srp_id, text_or_null, whole_or_null, wholes, word_or_null}
use Rattle.pce_view.specs.Json.{whole}
use Rattle.pce_view.specs.States.{gap_at, gaps_at, lsp_notes, path_notes, word_on}
use Rattle.pce_view.specs.Words.{lsp_error_word, operational_word, state_word}
use Rattle.history_core.specs.Histories.{Content, steps_of}
use Rattle.pce_seen.specs.Gaps.{gaps_of, placed}
use Rattle.pce_seen.specs.Lsps.{IsPage}
use Rattle.asks.specs.declared.ask.Ask.{Ask}
use Rattle.asks.specs.declared.ask.Ask.TheVariants as ask
use Rattle.asks.specs.declared.ask.PeerPage.{PeerPage}

-- a path of an LSP: reported under an LSP ID, or granted under an SRP-ID; what its router says of it, and its first gap
unfoldable pub path_json : PathNotes → Path → Json
path_json n x = object
    (member (codes "lsp_id") (whole_or_null (lsp_id x.part))
    (member (codes "srp_id") (whole_or_null (srp_id x.part))
    (member (codes "is_granted") (boolean (is_granted x.part))
    (member (codes "is_fresh") (boolean x.fresh)
    (member (codes "hold_priority") (whole x.hold)
    (member (codes "bandwidth_bytes_per_second") (whole x.bandwidth)
    (member (codes "links") (array (wholes x.links))
    (member (codes "state") (word_or_null (option_map operational_word n.operational))
    (member (codes "error_code") (whole_or_null n.error_code)
    (member (codes "error") (word_or_null (option_map lsp_error_word n.error_code))
    (member (codes "rsvp_error_node") (address_or_null n.rsvp_node)
    (member (codes "rsvp_error_code") (whole_or_null n.rsvp_code)
    (member (codes "rsvp_error_value") (whole_or_null n.rsvp_value)
    (member (codes "gap_before_link") (whole_or_null n.gap_before)
    (member (codes "gap_after_link") (whole_or_null n.gap_after)
    no_members)))))))))))))))

-- the paths from this place on
abbrev pub path_items : PathWords → List (Option Gap) → ℕ → List Path → Items
path_items words gaps place [] = no_items
path_items words gaps place (x ∷ xs) = item (path_json (path_notes (word_on words x) (gap_at gaps place)) x) (path_items words gaps (place + 1) xs)

unfoldable pub noted_lsp_json : LspNotes → PathWords → List (Option Gap) → KnownLsp → Json
noted_lsp_json n words gaps l = object
    (member (codes "peer") (address (l.known).peer)
    (member (codes "plsp_id") (whole (l.known).plsp)
    (member (codes "name") (text_or_null ((l.known).lsp).name)
    (member (codes "name_hex") (string (encode_lower ((l.known).lsp).name))
    (member (codes "is_delegated") (boolean ((l.known).lsp).delegated)
    (member (codes "is_created") (boolean ((l.known).lsp).created)
    (member (codes "is_removing") (boolean (is_some ((l.known).lsp).removing))
    (member (codes "is_down") (boolean (is_down l.paths))
    (member (codes "state") (word_or_null (state_word n.state))
    (member (codes "is_partly_placed") (boolean n.is_partly_placed)
    (member (codes "setup_priority") (whole ((((l.known).lsp).constraints).priorities).setup)
    (member (codes "hold_priority") (whole ((((l.known).lsp).constraints).priorities).hold)
    (member (codes "bandwidth_bytes_per_second") (whole (((l.known).lsp).constraints).bandwidth)
    (member (codes "source") (address_or_null (((l.known).lsp).constraints).source)
    (member (codes "destination") (address_or_null (((l.known).lsp).constraints).destination)
    (member (codes "refusal_type") (whole_or_null n.refusal_type)
    (member (codes "refusal_value") (whole_or_null n.refusal_value)
    (member (codes "refusal") (word_or_null (refusal_words n.refusal))
    (member (codes "paths") (array (path_items words gaps 0 l.paths))
    no_members)))))))))))))))))))

-- an LSP whose paths have these gaps, with what its router says of it
abbrev pub lsp_json : Heard → List (Option Gap) → KnownLsp → Json
lsp_json h gaps l = noted_lsp_json (lsp_notes h l gaps) h.words gaps l

-- the LSPs from this place on
abbrev pub lsp_items : Heard → List (List (Option Gap)) → ℕ → List KnownLsp → Items
lsp_items h gaps place [] = no_items
lsp_items h gaps place (l ∷ ls) = item (lsp_json h (gaps_at gaps place) l) (lsp_items h gaps (place + 1) ls)

-- a page of LSPs: the place of its first record, that of the next page, and at which count of steps it was seen
abbrev pub page_json : ℕ → Heard → PlacedPage → Json
page_json from h placed = object
    (member (codes "from") (whole from)
    (member (codes "next") (whole_or_null (placed.page).next)
    (member (codes "steps") (whole (placed.page).steps)
    (member (codes "lsps") (array (lsp_items h placed.gaps.items 0 (placed.page).lsps.items))
    no_members))))

-- a page of LSPs, and where the routes of their paths have gaps
pub record SeesLsps (peer : Option ℕ) (from : ℕ) (d : Content) (seen : PlacedPage) : Type 0 where
  pub page : IsPage d.state.base peer from seen.page
  pub steps : (seen.page).steps ≡ steps_of d
  pub gaps : seen.gaps.items ≡ map (gaps_of d.state.te) (seen.page).lsps.items

-- a reader of JSON reads the text as what was seen, with what routers said of it
abbrev pub ReadsLsps : PeerPage → Heard → PlacedPage → List ℕ → Type 0
ReadsLsps q heard page text = document text ≡ Some (page_json q.from heard page)

-- the next page of the same peer, if one follows
abbrev pub next_lsps : PeerPage → PlacedPage → Option Ask
next_lsps q placed = option_map (λ from. ask.Lsps (record q { from = from })) (placed.page).next
