-- When an LSP for which there is no path is asked for again.
use Rattle.std.specs.Prelude.{◌≡◌, ◌==◌, ◌≤◌, ◌<◌, ℕ, ◌*◌, min, Bool, true, false, not, ◌&&◌, ◌||◌, List, ◌∷◌, length, count_by, Option, Some, None, is_some, option_map, unwrap_or, slice_get, if◌then◌else◌}
use Rattle.std.specs.List.{filter_map}
use Rattle.indexmap.specs.IndexMap.{get, values, IsUnique}
use Rattle.server_rules.specs.Keyed.{known_from}
use Rattle.server_rules.specs.Pendings.{has_passed}
use Rattle.server_rules.specs.declared.retry.RouterLsp.{RouterLsp}
use Rattle.server_rules.specs.declared.retry.LspSight.{LspSight}
use Rattle.server_rules.specs.declared.retry.RetryState.{RetryState}
use Rattle.server_rules.specs.declared.retry.Concerned.{Concerned}
use Rattle.server_rules.specs.declared.retry.Concerned.TheVariants.{Lsp, Router, All}
use Rattle.server_rules.specs.declared.retry.RetryHappening.{RetryHappening}
use Rattle.server_rules.specs.declared.retry.RetryHappening.TheVariants.{Seen, Tried, NoAnswer, Reported, CameUp, Gone, Reloaded, Up, Expired}
use Rattle.server_rules.specs.declared.retry_table.RetryTable.{RetryTable}

-- two are the same if router and PLSP-ID are: each router has its own PLSP-IDs
abbrev pub is_same_lsp : RouterLsp → RouterLsp → Bool
is_same_lsp a b = a.peer == b.peer && a.plsp == b.plsp

-- An LSP is a candidate if it is delegated and switched on, each of its paths was last reported DOWN, nothing is under
-- way for it, and its router is in sync and takes updates.
abbrev pub is_candidate : LspSight → Bool
is_candidate s =
    s.router_is_up && s.router_in_sync && s.takes_updates && s.is_delegated && s.is_down && s.is_switched_on && not s.has_grant && not s.has_ticket
    && not s.is_removing

-- what is known about an LSP that isn't known
abbrev pub nothing : RetryState
nothing = record { since_ms = None; tried_ms = None; factor = 1; is_at_once = false; is_awaited = false; is_unanswered = false }

-- an LSP that stays a candidate keeps its moment; a try is answered when neither its ticket nor its grant stands
abbrev pub seen : LspSight → Bool → ℕ → RetryState → RetryState
seen s is_first now_ms k = record k {
  since_ms = if is_candidate s then Some (unwrap_or k.since_ms now_ms) else None;
  is_at_once = is_candidate s && (is_first || k.is_at_once);
  is_awaited = k.is_awaited && (s.has_ticket || s.has_grant);
}

-- each try doubles the time to the next one, up to 64 times the first
abbrev pub tried : ℕ → RetryState → RetryState
tried now_ms k = record k { tried_ms = Some now_ms; factor = min (k.factor * 2) 64; is_at_once = false; is_awaited = true }

abbrev pub unanswered : RetryState → RetryState
unanswered k = record k { is_awaited = false; is_unanswered = true }

abbrev pub reported : RetryState → RetryState
reported k = record k { is_unanswered = false }

-- it begins again from the start, at this moment
abbrev pub came_up : ℕ → RetryState → RetryState
came_up now_ms k = record k { since_ms = option_map (λ since_ms. now_ms) k.since_ms; tried_ms = None; factor = 1; is_at_once = false; is_unanswered = false }

-- it begins again from the start, and is due at once
abbrev pub begun_anew : RetryState → RetryState
begun_anew k = record k { tried_ms = None; factor = 1; is_at_once = is_some k.since_ms }

-- what is known about an LSP after a happening that concerns it
abbrev pub changed : RetryHappening → RetryState → RetryState
changed (Seen _ sight is_first now_ms) k = seen sight is_first now_ms k
changed (Tried _ now_ms) k = tried now_ms k
changed (NoAnswer _) k = unanswered k
changed (Reported _) k = reported k
changed (CameUp _ now_ms) k = came_up now_ms k
changed (Gone _) k = nothing
changed Reloaded k = begun_anew k
changed (Up _) k = nothing
changed (Expired _) k = nothing

abbrev pub whom : RetryHappening → Concerned
whom (Seen of _ _ _) = Lsp of
whom (Tried of _) = Lsp of
whom (NoAnswer of) = Lsp of
whom (Reported of) = Lsp of
whom (CameUp of _) = Lsp of
whom (Gone of) = Lsp of
whom Reloaded = All
whom (Up peer) = Router peer
whom (Expired peer) = Router peer

abbrev pub is_of : Concerned → RouterLsp → Bool
is_of (Lsp of) lsp = is_same_lsp of lsp
is_of (Router peer) lsp = peer == lsp.peer
is_of All lsp = true

abbrev pub concerns : RetryHappening → RouterLsp → Bool
concerns h lsp = is_of (whom h) lsp

-- what is known about an LSP, given all that happened, the latest first
abbrev pub retry_from : List RetryHappening → RouterLsp → RetryState
retry_from past lsp = known_from concerns changed nothing past lsp

-- A candidate is due at once, or this time after it became one. After a try it is due after twice the time of the try
-- before. An LSP whose router didn't answer isn't due, and if the time is 0, none is.
abbrev pub is_due_since : ℕ → ℕ → RetryState → Option ℕ → Bool
is_due_since now_ms retry_ms k None = false
is_due_since now_ms retry_ms k (Some since_ms) =
    if k.is_unanswered || retry_ms == 0 then false
    else k.is_at_once || has_passed (unwrap_or k.tried_ms since_ms) now_ms (retry_ms * k.factor)

abbrev pub is_due : ℕ → ℕ → RetryState → Bool
is_due now_ms retry_ms k = is_due_since now_ms retry_ms k k.since_ms

-- ---- the table

-- what the table has for an LSP
abbrev pub retry_in : RetryTable → RouterLsp → RetryState
retry_in table lsp = unwrap_or (get is_same_lsp table.lsps lsp) nothing

-- the table has, in one entry for each LSP, what is known from all that happened, and has at most 16,384 entries
pub record Knows (table : RetryTable) (past : List RetryHappening) : Type 0 where
  pub few : length table.lsps.entries ≤ 16384
  pub unique : IsUnique is_same_lsp table.lsps
  pub known : (lsp : RouterLsp) → retry_in table lsp ≡ retry_from past lsp

-- the table has for each LSP what it had
abbrev pub IsSame : RetryTable → RetryTable → Type 0
IsSame old new = (past : List RetryHappening) → Knows old past → Knows new past

-- the table knew all that happened, and now also knows this
abbrev pub Adds : RetryTable → RetryTable → RetryHappening → Type 0
Adds old new what = (past : List RetryHappening) → Knows old past → Knows new (what ∷ past)

-- the state is that of an LSP that isn't known
abbrev pub is_nothing : RetryState → Bool
is_nothing k = not (is_some k.since_ms) && not (is_some k.tried_ms) && k.factor == 1 && not k.is_at_once && not k.is_awaited && not k.is_unanswered

-- noting this about an LSP takes a new entry of the table
abbrev pub is_new : RetryTable → RetryHappening → RouterLsp → Bool
is_new table what lsp = not (is_some (get is_same_lsp table.lsps lsp)) && not (is_nothing (changed what (retry_in table lsp)))

-- the happening takes memory: it is the first of an LSP that isn't known
abbrev pub needs_room_for : RetryTable → RetryHappening → Concerned → Bool
needs_room_for table what (Lsp of) = is_new table what of
needs_room_for table what (Router _) = false
needs_room_for table what All = false

abbrev pub needs_room : RetryTable → RetryHappening → Bool
needs_room table what = needs_room_for table what (whom what)

-- the number of tries that wait for an answer
abbrev pub awaited : RetryTable → ℕ
awaited table = count_by (λ (k : RetryState). k.is_awaited) (values table.lsps)

-- ---- what is due

abbrev pub due_of : ℕ → ℕ → RouterLsp × RetryState → Option RouterLsp
due_of now_ms retry_ms e = if is_due now_ms retry_ms e.1 then Some e.0 else None

-- the LSPs of the entries that are due, in their order
abbrev pub dues_in : RetryTable → ℕ → ℕ → List RouterLsp
dues_in table now_ms retry_ms = filter_map (due_of now_ms retry_ms) table.lsps.entries

-- what is listed is due, and there are no more than there is room for; if room is left, whatever is due is listed
pub record AreDue (past : List RetryHappening) (now_ms retry_ms room : ℕ) (due : List RouterLsp) : Type 0 where
  pub few : length due ≤ room
  pub each : (k : ℕ) (lsp : RouterLsp) → slice_get due k ≡ Some lsp → is_due now_ms retry_ms (retry_from past lsp) ≡ true
  pub all : length due < room → (lsp : RouterLsp) → is_due now_ms retry_ms (retry_from past lsp) ≡ true → (k : ℕ) × (slice_get due k ≡ Some lsp)
