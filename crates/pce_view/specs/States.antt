-- What routers say of LSPs, and the state in which an LSP is shown by that.
use Rattle.std.specs.Prelude.{ℕ, ◌+◌, Bool, true, false, List, [], ◌∷◌, length, filter, fold, option_map, is_some, slice_get, Option, Some, None}
use Rattle.std.specs.List.{list_any}
use Rattle.lsp_base.specs.declared.path.Path.{Path}
use Rattle.lsp_base.specs.declared.tunnel.Part.{Part}
use Rattle.lsp_base.specs.declared.tunnel.Part.TheVariants.{Reported, Granted}
use Rattle.pce_seen.specs.declared.gaps.Gap.{Gap}
use Rattle.pce_seen.specs.declared.gaps.Gap.TheVariants as gap
use Rattle.pce_seen.specs.declared.lsps.KnownLsp.{KnownLsp}
use Rattle.server_rules.specs.PathWords.{better_of, noted_in, word_of}
use Rattle.server_rules.specs.PcErrs.{error_in}
use Rattle.server_rules.specs.declared.path_word.Operational.{Operational}
use Rattle.server_rules.specs.declared.path_word.Operational.TheVariants as operational
use Rattle.server_rules.specs.declared.path_word.PathWord.{PathWord}
use Rattle.server_rules.specs.declared.path_word.RsvpError.{RsvpError}
use Rattle.server_rules.specs.declared.path_words.PathWords.{PathWords}
use Rattle.server_rules.specs.declared.peer_errors.PcErr.{PcErr}
use Rattle.pce_view.specs.Fields.{is_down}
use Rattle.pce_view.specs.declared.heard.Heard.{Heard}
use Rattle.pce_view.specs.declared.shown_states.ShownState.{ShownState}
use Rattle.pce_view.specs.declared.states.LspState.{LspState}
use Rattle.pce_view.specs.declared.states.LspState.TheVariants as state
use Rattle.pce_view.specs.declared.notes.LspNotes.{LspNotes}
use Rattle.pce_view.specs.declared.notes.PathNotes.{PathNotes}

abbrev pub word_by : PathWords → ℕ → ℕ → Part → Option PathWord
word_by words peer plsp (Reported id) = word_of (noted_in words (record { peer = peer; plsp = plsp; lsp = id }))
word_by words peer plsp (Granted srp) = None

-- what its router's latest report says of a path beyond the state; of a grant no report says anything
abbrev pub word_on : PathWords → Path → Option PathWord
word_on words x = word_by words x.peer x.plsp x.part

abbrev pub operational_in : Option PathWord → Option Operational
operational_in w = option_map (λ (word : PathWord). word.operational) w

-- the better of two states, as far as they are known
abbrev pub better : Option Operational → Option Operational → Option Operational
better None b = b
better (Some a) None = Some a
better (Some a) (Some b) = Some (better_of a b)

-- the best state in which a router reports one of these paths
abbrev pub with_path : PathWords → Option Operational → Path → Option Operational
with_path words best x = better best (operational_in (word_on words x))

abbrev pub best_of : PathWords → List Path → Option Operational
best_of words xs = fold (with_path words) None xs

-- an LSP that is up, and of which no link is booked, is unplaced
abbrev pub placed_as : LspState → Bool → LspState
placed_as s true = state.Unplaced
placed_as s false = s

abbrev pub state_by : Option Operational → Bool → LspState
state_by None true = state.Down
state_by None false = state.Unknown
state_by (Some operational.Active) down = placed_as state.Active down
state_by (Some operational.Up) down = placed_as state.Up down
state_by (Some operational.GoingUp) down = state.GoingUp
state_by (Some operational.GoingDown) down = state.GoingDown
state_by (Some operational.Down) down = state.Down

-- The state of an LSP with these paths: the best that its router reports. If nothing is known of that, it is down if no
-- reported path is on a link.
abbrev pub state_of : PathWords → List Path → LspState
state_of words xs = state_by (best_of words xs) (is_down xs)

-- ---- what is shown of a path and of an LSP beside what the state has

abbrev pub gap_before : Option Gap → Option ℕ
gap_before (Some (gap.Before link)) = Some link
gap_before g = None

abbrev pub gap_after : Option Gap → Option ℕ
gap_after (Some (gap.After link)) = Some link
gap_after g = None

abbrev pub error_of : Option PathWord → Option ℕ
error_of None = None
error_of (Some w) = w.error_code

abbrev pub rsvp_of : Option PathWord → Option RsvpError
rsvp_of None = None
rsvp_of (Some w) = w.rsvp_error

abbrev pub path_notes : Option PathWord → Option Gap → PathNotes
path_notes w g = record {
  operational = operational_in w;
  error_code = error_of w;
  rsvp_node = option_map (λ (e : RsvpError). e.node) (rsvp_of w);
  rsvp_code = option_map (λ (e : RsvpError). e.code) (rsvp_of w);
  rsvp_value = option_map (λ (e : RsvpError). e.value) (rsvp_of w);
  gap_before = gap_before g;
  gap_after = gap_after g;
}

abbrev pub is_partly_placed : List (Option Gap) → Bool
is_partly_placed gaps = list_any (λ g. is_some g) gaps

abbrev pub noted_lsp : LspState → Bool → Option PcErr → LspNotes
noted_lsp s is_partly refusal = record {
  state = s;
  is_partly_placed = is_partly;
  refusal = refusal;
  refusal_type = option_map (λ (e : PcErr). e.kind) refusal;
  refusal_value = option_map (λ (e : PcErr). e.value) refusal;
}

abbrev pub lsp_notes : Heard → KnownLsp → List (Option Gap) → LspNotes
lsp_notes h l gaps = noted_lsp (state_of h.words l.paths) (is_partly_placed gaps) (error_in h.errors (record { peer = (l.known).peer; plsp = (l.known).plsp }))

-- the gap of the path at a place, and those of the LSP at a place
abbrev pub known_gap : Option (Option Gap) → Option Gap
known_gap None = None
known_gap (Some g) = g

abbrev pub gap_at : List (Option Gap) → ℕ → Option Gap
gap_at gaps place = known_gap (slice_get gaps place)

abbrev pub known_gaps : Option (List (Option Gap)) → List (Option Gap)
known_gaps None = []
known_gaps (Some gaps) = gaps

abbrev pub gaps_at : List (List (Option Gap)) → ℕ → List (Option Gap)
gaps_at gaps place = known_gaps (slice_get gaps place)

-- ---- what metrics count of all LSPs

abbrev pub shown_state : Heard → List (Option Gap) → KnownLsp → ShownState
shown_state h gaps l = record { peer = (l.known).peer; state = state_of h.words l.paths; broken_paths = length (filter (λ g. is_some g) gaps) }

-- each LSP from this place on
abbrev pub shown_states : Heard → List (List (Option Gap)) → ℕ → List KnownLsp → List ShownState
shown_states h gaps place [] = []
shown_states h gaps place (l ∷ ls) = shown_state h (gaps_at gaps place) l ∷ shown_states h gaps (place + 1) ls
