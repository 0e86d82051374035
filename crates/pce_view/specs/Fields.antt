-- The members of an object.
use Rattle.std.specs.Prelude.{ℕ, ℤ, Bool, not, ◌==◌, ◌||◌, List, [], ◌∷◌, length, slice_get, Option, Some, None, is_some, option_map, if◌then◌else◌}
use Rattle.std.specs.List.{list_all}
use Rattle.std.specs.Str.{is_utf8}
use Rattle.hex.specs.Hex.{encode_lower}
use Rattle.json.specs.Json.{Json, null, boolean, string, array, Items, no_items, item, Members, no_members, member}
use Rattle.pcep_word.specs.Address.{text_of}
use Rattle.te_base.specs.declared.network.Node.{Node}
use Rattle.lsp_base.specs.Same.{is_reported}
use Rattle.lsp_base.specs.declared.path.Path.{Path}
use Rattle.lsp_base.specs.declared.tunnel.Part.{Part}
use Rattle.lsp_base.specs.declared.tunnel.Part.TheVariants.{Reported, Granted}
use Rattle.pce_view.specs.declared.fields.Field.{Field}
use Rattle.pce_view.specs.declared.fields.Field.TheVariants as field
use Rattle.pce_view.specs.declared.fields.Member.{Member}
use Rattle.path_looks.specs.declared.answer.Obstacle.{Obstacle}
use Rattle.path_looks.specs.declared.link_room.LinkRoom.{LinkRoom}
use Rattle.end_reasons.specs.declared.reason.Reason.{Reason}
use Rattle.error_words.specs.Errors.{error_words}
use Rattle.history_core.specs.Briefs.{brief_number, brief_word}
use Rattle.server_rules.specs.declared.peer_errors.PcErr.{PcErr}
use Rattle.end_reasons.specs.Reasons.{reason_word}
use Rattle.pce_view.specs.Json.{whole, signed}
use Rattle.pce_view.specs.Words.{cost_in, cost_of_path, event_word, is_found, link_in, links_in, links_of_path, lsp_error_word, obstacle_of, obstacle_word, operational_word, origin_step, origin_ticket, origin_word, purpose_name, purpose_plsp, purpose_request, purpose_word, state_word}

abbrev pub amounts : List ℤ → Items
amounts [] = no_items
amounts (n ∷ ns) = item (signed n) (amounts ns)

abbrev pub wholes : List ℕ → Items
wholes [] = no_items
wholes (n ∷ ns) = item (whole n) (wholes ns)

-- a number, or nothing
abbrev pub whole_or_null : Option ℕ → Json
whole_or_null None = null
whole_or_null (Some n) = whole n

-- the text of an address
abbrev pub address : ℕ → Json
address a = string (text_of a)

abbrev pub address_or_null : Option ℕ → Json
address_or_null None = null
address_or_null (Some a) = address a

-- bytes as a text, where they are UTF-8
abbrev pub text_or_null : List ℕ → Json
text_or_null bytes = if is_utf8 bytes then string bytes else null

-- the number of a path that the peer reported, and of one that was granted
abbrev pub lsp_id : Part → Option ℕ
lsp_id (Reported id) = Some id
lsp_id (Granted srp) = None

abbrev pub srp_id : Part → Option ℕ
srp_id (Reported id) = None
srp_id (Granted srp) = Some srp

-- the path was granted, and is in no report yet
abbrev pub is_granted : Part → Bool
is_granted part = not (is_reported part)

-- None of the reported paths is on a link: the router reports the LSP DOWN (RFC 8231 section 7.3), or without a route that is
-- known.
abbrev pub is_down : List Path → Bool
is_down paths = list_all (λ x. is_granted x.part || length x.links == 0) paths

abbrev pub name_or_null : Option (List ℕ) → Json
name_or_null None = null
name_or_null (Some bytes) = text_or_null bytes

abbrev pub obstacle_json : Option Obstacle → Json
obstacle_json None = null
obstacle_json (Some by) = string (obstacle_word by)

-- a word, or nothing
abbrev pub word_or_null : Option (List ℕ) → Json
word_or_null None = null
word_or_null (Some word) = string word

-- what a PCErr means
abbrev pub refusal_words : Option PcErr → Option (List ℕ)
refusal_words error = option_map (λ (e : PcErr). error_words e.kind e.value) error

-- what is left of a link, or nothing
abbrev pub left_or_null : Option LinkRoom → Json
left_or_null None = null
left_or_null (Some room) = signed room.left

-- why a connection ended, where one did
abbrev pub end_json : Option Reason → Json
end_json None = null
end_json (Some reason) = string (reason_word reason)

-- a node's name; empty where there is no such node
abbrev pub name_or_none : Option Node → List ℕ
name_or_none None = []
name_or_none (Some node) = node.name

abbrev pub name_at : List Node → ℕ → List ℕ
name_at nodes n = name_or_none (slice_get nodes n)

abbrev pub field_json : Field → Json
field_json (field.Whole n) = whole n
field_json (field.WholeOr n) = whole_or_null n
field_json (field.Signed n) = signed n
field_json (field.Text s) = string s.now
field_json (field.Flag b) = boolean b
field_json (field.Address a) = address a
field_json (field.AddressOr a) = address_or_null a
field_json (field.Peer peer) = address peer
field_json (field.PeerOr peer) = address_or_null peer
field_json (field.Plsp plsp) = whole plsp
field_json (field.Rate bandwidth) = whole bandwidth
field_json (field.Level priority) = whole priority
field_json (field.Setup priorities) = whole priorities.setup
field_json (field.Hold priorities) = whole priorities.hold
field_json (field.LspId part) = whole_or_null (lsp_id part)
field_json (field.SrpId part) = whole_or_null (srp_id part)
field_json (field.IsGranted part) = boolean (is_granted part)
field_json (field.IsDown paths) = boolean (is_down paths.now)
field_json (field.IsThere number) = boolean (is_some number)
field_json (field.State state) = word_or_null (state_word state)
field_json (field.StateOfPath operational) = word_or_null (option_map operational_word operational)
field_json (field.LspError code) = word_or_null (option_map lsp_error_word code)
field_json (field.Refusal error) = word_or_null (refusal_words error)
field_json (field.Node name) = string name.now
field_json (field.NodeAt nodes number) = string (name_at nodes.now number)
field_json (field.Name bytes) = text_or_null bytes.now
field_json (field.Hex bytes) = string (encode_lower bytes.now)
field_json (field.NameOr name) = name_or_null name.now
field_json (field.EndOf reason) = end_json reason
field_json (field.PurposeWord purpose) = string (purpose_word purpose.now)
field_json (field.PurposePlsp purpose) = whole_or_null (purpose_plsp purpose.now)
field_json (field.PurposeName purpose) = name_or_null (purpose_name purpose.now)
field_json (field.PurposeRequest purpose) = whole_or_null (purpose_request purpose.now)
field_json (field.Event event) = string (event_word event)
field_json (field.Reply reply) = string (brief_word reply)
field_json (field.ReplyNumber reply) = whole_or_null (brief_number reply)
field_json (field.IsFound answer) = boolean (is_found answer.now)
field_json (field.ObstacleOf answer) = obstacle_json (obstacle_of answer.now)
field_json (field.CostOf answer) = whole_or_null (cost_in answer.now)
field_json (field.LinksOf answer) = array (wholes (links_in answer.now))
field_json (field.TightestLink room) = whole_or_null (link_in room.now)
field_json (field.TightestLeft room) = left_or_null room.now
field_json (field.HasPath path) = boolean (is_some path.now)
field_json (field.CostOfPath path) = whole_or_null (cost_of_path path.now)
field_json (field.LinksOfPath path) = array (wholes (links_of_path path.now))
field_json (field.OriginWord origin) = word_or_null (origin_word origin)
field_json (field.OriginStep origin) = whole_or_null (origin_step origin)
field_json (field.OriginTicket origin) = whole_or_null (origin_ticket origin)
field_json (field.Amounts ns) = array (amounts ns.now)
field_json (field.Links ns) = array (wholes ns.now)

-- these members, and then others
abbrev pub members_then : List Member → Members → Members
members_then [] others = others
members_then (m ∷ ms) others = member m.0.now (field_json m.1) (members_then ms others)

abbrev pub members_json : List Member → Members
members_json ms = members_then ms no_members
