-- When a grant, or an awaited deletion, should end although its router doesn't settle it.
use Rattle.std.specs.Prelude.{◌≡◌, ◌==◌, ◌≤◌, ℕ, ◌-◌, Bool, true, false, not, nat_le, nat_lt, ◌&&◌, ◌||◌, List, [], ◌∷◌, Option, Some, None, option_map, is_some, length, slice_get, if◌then◌else◌, nat_eq, unwrap_or, IfSome}
use Rattle.std.specs.List.{filter_map}
use Rattle.indexmap.specs.IndexMap.{get}
use Rattle.server_rules.specs.declared.pending.Pending.{Pending}
use Rattle.server_rules.specs.declared.pending.RouterKnown.{RouterKnown}
use Rattle.server_rules.specs.declared.pending.PendingState.{PendingState}
use Rattle.server_rules.specs.declared.pending_table.PendingTable.{PendingTable}
use Rattle.server_rules.specs.declared.pending_table.PendingDue.{PendingDue}
use Rattle.server_rules.specs.declared.pending.PendingHappening.{PendingHappening}
use Rattle.server_rules.specs.declared.pending.PendingHappening.TheVariants.{Made, Named, Covered, Uncovered, Gone, Up, Down, SyncEnded, Expired}
use Rattle.server_rules.specs.declared.pending.PendingEnd.{PendingEnd}
use Rattle.server_rules.specs.declared.pending.PendingEnd.TheVariants as end

-- two are the same if router and SRP-ID are: each router has its own SRP-IDs
abbrev pub is_same : Pending → Pending → Bool
is_same a b = a.peer == b.peer && a.srp == b.srp

-- a pending grant or deletion, while it stands
pub record Standing : Type 0 where
  -- when it was made or last named
  pub since_ms : ℕ
  -- a reported path covers it
  pub is_covered : Bool
  -- a session of its router came up since it was made
  pub is_earlier : Bool

-- what is known about one grant or deletion, and about its router
pub record PendingKnown : Type 0 where
  -- a session of the router is up
  pub is_up : Bool
  -- the router has reported all of its LSPs since its latest session came up
  pub in_sync : Bool
  pub stands : Option Standing

abbrev pub nothing : PendingKnown
nothing = record { is_up = false; in_sync = false; stands = None }

abbrev pub made : ℕ → Option Standing → Option Standing
made now_ms None = Some (record { since_ms = now_ms; is_covered = false; is_earlier = false })
made now_ms (Some s) = Some s

-- What is known about one grant or deletion after a happening that concerns it.
abbrev pub after_own : PendingHappening → PendingKnown → PendingKnown
after_own (Made _ now_ms) k = record k { stands = made now_ms k.stands }
after_own (Named _ now_ms) k = record k { stands = option_map {T = Standing} {U = Standing} (λ s. record s { since_ms = now_ms }) k.stands }
after_own (Covered _) k = record k { stands = option_map {T = Standing} {U = Standing} (λ s. record s { is_covered = true }) k.stands }
after_own (Uncovered _) k = record k { stands = option_map {T = Standing} {U = Standing} (λ s. record s { is_covered = false }) k.stands }
after_own (Gone _) k = record k { stands = None }
-- all that the router was granted before is now of an earlier session; it stays until the router is in sync
after_own (Up _) k = record { is_up = true; in_sync = false; stands = option_map {T = Standing} {U = Standing} (λ s. record s { is_earlier = true }) k.stands }
after_own (Down _) k = record k { is_up = false }
after_own (SyncEnded _) k = record k { in_sync = k.is_up || k.in_sync }
after_own (Expired _) k = nothing

-- when it was made or last named, while it stands
abbrev pub since_of : PendingKnown → Option ℕ
since_of k = option_map {T = Standing} {U = ℕ} (λ s. s.since_ms) k.stands

-- the happening concerns this grant or deletion
abbrev pub concerns : PendingHappening → Pending → Bool
concerns (Made of _) p = is_same of p
concerns (Named of _) p = is_same of p
concerns (Covered of) p = is_same of p
concerns (Uncovered of) p = is_same of p
concerns (Gone of) p = is_same of p
concerns (Up peer) p = peer == p.peer
concerns (Down peer) p = peer == p.peer
concerns (SyncEnded peer) p = peer == p.peer
concerns (Expired peer) p = peer == p.peer

abbrev pub after : PendingHappening → Pending → PendingKnown → PendingKnown
after h p k = if concerns h p then after_own h k else k

-- what is known about a grant or deletion, given all that happened, the latest first
abbrev pub known_from : List PendingHappening → Pending → PendingKnown
known_from [] p = nothing
known_from (h ∷ past) p = after h p (known_from past p)

abbrev pub has_passed : ℕ → ℕ → ℕ → Bool
has_passed since_ms now_ms time_ms = nat_le since_ms now_ms && nat_le time_ms (now_ms - since_ms)

-- What stands should end: at once if it is covered; if it is of an earlier session, once its router is in sync; and,
-- while a session of its router is up, this time after it was made or last named (0: never).
abbrev pub end_of : ℕ → ℕ → PendingKnown → Standing → Option PendingEnd
end_of now_ms answer_ms k s =
    if s.is_covered then Some end.Covered
    else if s.is_earlier && k.in_sync then Some end.EarlierSession
    else if k.is_up && (nat_lt 0 answer_ms && has_passed s.since_ms now_ms answer_ms) then Some end.NoAnswer
    else None

abbrev pub end_if : ℕ → ℕ → PendingKnown → Option Standing → Option PendingEnd
end_if now_ms answer_ms k None = None
end_if now_ms answer_ms k (Some s) = end_of now_ms answer_ms k s

abbrev pub owing : ℕ → ℕ → PendingKnown → Option PendingEnd
owing now_ms answer_ms k = end_if now_ms answer_ms k k.stands

-- ---- the table

-- what is known about a router that never came
abbrev pub nobody : RouterKnown
nobody = record { sessions = 0; is_up = false; in_sync = false }

-- what the table has for a router
abbrev pub router_in : PendingTable → ℕ → RouterKnown
router_in table peer = unwrap_or (get nat_eq table.routers peer) nobody

abbrev pub standing : RouterKnown → PendingState → Standing
standing router s = record { since_ms = s.since_ms; is_covered = s.is_covered; is_earlier = not (s.session == router.sessions) }

abbrev pub known_of : RouterKnown → Option PendingState → PendingKnown
known_of router s = record { is_up = router.is_up; in_sync = router.in_sync; stands = option_map (standing router) s }

-- what the table has for a grant or deletion
abbrev pub known_in : PendingTable → Pending → PendingKnown
known_in table p = known_of (router_in table p.peer) (get is_same table.pending p)

-- when it was made or last named, by the table
abbrev pub since_in : PendingTable → Pending → Option ℕ
since_in table p = since_of (known_in table p)

-- each entry of the table was made in a session that came up
abbrev pub AreCounted : PendingTable → Type 0
AreCounted table = (p : Pending) → IfSome (get is_same table.pending p) (λ s. s.session ≤ (router_in table p.peer).sessions)

-- the table has at most 32,768 grants and deletions, and at most 64 routers
abbrev pub AreFew : PendingTable → Type 0
AreFew table = (length table.pending.entries ≤ 32768) × (length table.routers.entries ≤ 64)

-- the table has for each grant and deletion what is known from all that happened
pub record Knows (table : PendingTable) (past : List PendingHappening) : Type 0 where
  pub few : AreFew table
  pub counted : AreCounted table
  pub known : (p : Pending) → known_in table p ≡ known_from past p

-- the happening may take memory: its grant or deletion, or its router, may be a new one
abbrev pub needs_room : PendingHappening → Bool
needs_room (Made _ _) = true
needs_room (Up _) = true
needs_room _ = false

-- the table has no room: the happening is the first of a grant or deletion, or of a router, and the table is full
abbrev pub is_full_for : PendingTable → PendingHappening → Bool
is_full_for table (Made of _) = not (is_some (get is_same table.pending of)) && nat_le 32768 (length table.pending.entries)
is_full_for table (Up peer) = not (is_some (get nat_eq table.routers peer)) && nat_le 64 (length table.routers.entries)
is_full_for table _ = false

-- the table has for each grant and deletion what it had
abbrev pub IsSame : PendingTable → PendingTable → Type 0
IsSame old new = (past : List PendingHappening) → Knows old past → Knows new past

-- the table knew all that happened, and now also knows this
abbrev pub Adds : PendingTable → PendingTable → PendingHappening → Type 0
Adds old new what = (past : List PendingHappening) → Knows old past → Knows new (what ∷ past)

-- ---- what is due

abbrev pub due_if : Pending → Option PendingEnd → Option PendingDue
due_if p owed = option_map (λ why. record { pending = p; end = why }) owed

-- what is due for an entry of the table
abbrev pub due_of : PendingTable → ℕ → ℕ → Pending × PendingState → Option PendingDue
due_of table now_ms answer_ms e = due_if e.0 (owing now_ms answer_ms (known_of (router_in table e.0.peer) (Some e.1)))

-- what is due for the entries, in their order
abbrev pub dues_in : PendingTable → ℕ → ℕ → List PendingDue
dues_in table now_ms answer_ms = filter_map (due_of table now_ms answer_ms) table.pending.entries

-- what is listed is due, for that reason, and whatever is due is listed
pub record AreDue (past : List PendingHappening) (now_ms answer_ms : ℕ) (due : List PendingDue) : Type 0 where
  pub each : (k : ℕ) (d : PendingDue) → slice_get due k ≡ Some d → owing now_ms answer_ms (known_from past d.pending) ≡ Some d.end
  pub all : (p : Pending) (why : PendingEnd) → owing now_ms answer_ms (known_from past p) ≡ Some why → (k : ℕ) × (slice_get due k ≡ Some (record { pending = p; end = why }))
