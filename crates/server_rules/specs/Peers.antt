-- When a router is forgotten, and which Down is still to be submitted, given all that happened.
use Rattle.std.specs.Prelude.{◌≡◌, ◌==◌, ℕ, ◌+◌, ◌-◌, ◌≤◌, max, Bool, true, false, nat_eq, nat_lt, nat_le, ◌&&◌, ◌||◌, List, [], ◌∷◌, length, Option, Some, None, unwrap_or, if◌then◌else◌}
use Rattle.std.specs.Option.{option_map_or}
use Rattle.std.specs.List.{list_any}
use Rattle.indexmap.specs.IndexMap.{get, index_of, move_index}
use Rattle.server_rules.specs.declared.known.Happening.{Happening}
use Rattle.server_rules.specs.declared.known.Happening.TheVariants as happening
use Rattle.server_rules.specs.declared.known.Known.{Known}
use Rattle.server_rules.specs.declared.known.Owing.{Owing}
use Rattle.server_rules.specs.declared.known.Owing.TheVariants.{Down, Expire}
use Rattle.server_rules.specs.declared.expiry.Due.{Due}
use Rattle.server_rules.specs.declared.expiry.Expiry.{Expiry}
use Rattle.server_rules.specs.declared.expiry.Spare.{Spare}

-- what is known about a peer that never came
abbrev pub nothing : Known
nothing = record { live = 0; up = 0; owes_a_down = false; last_down = None }

abbrev pub later : ℕ → Option ℕ → ℕ
later at_ms None = at_ms
later at_ms (Some other_ms) = max at_ms other_ms

-- What is known about a peer after a happening. A session comes up on a connection that lives, and goes down only if it
-- was up. An owed Down is removed only by being submitted. The last Down is the latest of all, in whatever order they
-- came.
abbrev pub after : Happening → Known → Known
after happening.Connected k = record k { live = k.live + 1 }
after happening.Up k = if nat_lt k.up k.live then record k { up = k.up + 1 } else k
after (happening.Down at_ms) k = if nat_eq k.up 0 then k else record k { up = k.up - 1; last_down = Some (later at_ms k.last_down) }
after happening.Owed k = if nat_eq k.up 0 then k else record k { up = k.up - 1; owes_a_down = true }
after (happening.Submitted at_ms) k = if k.owes_a_down then record k { owes_a_down = false; last_down = Some (later at_ms k.last_down) } else k
after happening.Gone k = record k { live = k.live - 1 }
after happening.Forgotten k = record k { last_down = None }
-- the peer was to be forgotten, but is up again or not known: it isn't forgotten before its next Down
after happening.Kept k = record k { last_down = None }

-- what is known about a peer, given all that happened, the latest first
abbrev pub known_from : List (ℕ × Happening) → ℕ → Known
known_from [] peer = nothing
known_from (h ∷ past) peer = if nat_eq h.0 peer then after h.1 (known_from past peer) else known_from past peer

-- this time has passed since its last Down, if there was one
abbrev pub is_kept_out : ℕ → ℕ → Option ℕ → Bool
is_kept_out now_ms keep_ms None = false
is_kept_out now_ms keep_ms (Some at_ms) = nat_le at_ms now_ms && nat_le keep_ms (now_ms - at_ms)

-- What is due for a peer at a moment: first an owed Down, at once; then, if no session of it is up and its last Down
-- was this time ago or longer, that it is forgotten. A connection whose session never came up doesn't count.
abbrev pub owing : ℕ → ℕ → Known → Option Owing
owing now_ms keep_ms k =
    if k.owes_a_down then Some Down else if nat_eq k.up 0 && is_kept_out now_ms keep_ms k.last_down then Some Expire else None

abbrev pub due_or : ℕ → Option Owing → Option Due → Option Due
due_or peer None rest = rest
due_or peer (Some what) rest = Some (record { peer = peer; what = what })

-- what is due for the first entry for which something is due
abbrev pub first_due : ℕ → ℕ → List (ℕ × Known) → Option Due
first_due now_ms keep_ms [] = None
first_due now_ms keep_ms (e ∷ es) = due_or e.0 (owing now_ms keep_ms e.1) (first_due now_ms keep_ms es)

-- the entries with the peer's moved to the end, if it has one
abbrev pub put_last : Expiry → ℕ → List (ℕ × Known)
put_last expiry peer = option_map_or (λ at. move_index expiry.peers.entries at (length expiry.peers.entries - 1)) (index_of nat_eq expiry.peers peer) expiry.peers.entries

-- every happening but a new connection
abbrev pub needs_no_room : Happening → Bool
needs_no_room happening.Connected = false
needs_no_room _ = true

-- what the table has for a peer
abbrev pub known_in : Expiry → ℕ → Known
known_in expiry peer = unwrap_or (get nat_eq expiry.peers peer) nothing

-- the table has for each peer what is known from all that happened
abbrev pub Knows : Expiry → List (ℕ × Happening) → Type 0
Knows expiry past = (peer : ℕ) → known_in expiry peer ≡ known_from past peer

-- the table has for each peer what it had
abbrev pub IsSame : Expiry → Expiry → Type 0
IsSame old new = (peer : ℕ) → known_in new peer ≡ known_in old peer

-- the table has for this peer what is known after the happening, and for each other peer what it had
abbrev pub Notes : Expiry → Expiry → ℕ → Happening → Type 0
Notes old new peer what = (other : ℕ) → known_in new other ≡ (if nat_eq peer other then after what (known_in old other) else known_in old other)

-- the table knew all that happened, and now also knows this
abbrev pub Adds : Expiry → Expiry → ℕ → Happening → Type 0
Adds old new peer what = (past : List (ℕ × Happening)) → Knows old past → Knows new ((peer, what) ∷ past)

-- what is returned is due; if nothing is returned, nothing is due for any peer
abbrev pub IsDue : List (ℕ × Happening) → ℕ → ℕ → Option Due → Type 0
IsDue past now_ms keep_ms (Some due) = owing now_ms keep_ms (known_from past due.peer) ≡ Some due.what
IsDue past now_ms keep_ms None = (peer : ℕ) → owing now_ms keep_ms (known_from past peer) ≡ None

-- if the answer is yes, some peer owes a Down; if it is no, none does
abbrev pub IsOwed : List (ℕ × Happening) → Bool → Type 0
IsOwed past true = (peer : ℕ) × ((known_from past peer).owes_a_down ≡ true)
IsOwed past false = (peer : ℕ) → (known_from past peer).owes_a_down ≡ false

abbrev pub is_among : List ℕ → ℕ → Bool
is_among holders peer = list_any (λ h. h == peer) holders

-- Since when a peer that could make room for another one has been down: no session of it is up, no Down of it is owed,
-- and it isn't among the holders, the peers that hold an LSP.
abbrev pub spare_since : List ℕ → ℕ → Known → Option ℕ
spare_since holders peer k = if k.owes_a_down || nat_lt 0 k.up || is_among holders peer then None else k.last_down

-- of the peers that could make room, none has been down longer than the returned one; if none is returned, there is
-- none
abbrev pub IsLongestDown : List (ℕ × Happening) → List ℕ → Option ℕ → Type 0
IsLongestDown past holders (Some peer) =
    (at_ms : ℕ) × (spare_since holders peer (known_from past peer) ≡ Some at_ms)
    × ((other other_ms : ℕ) → spare_since holders other (known_from past other) ≡ Some other_ms → at_ms ≤ other_ms)
IsLongestDown past holders None = (peer : ℕ) → spare_since holders peer (known_from past peer) ≡ None

-- the one that has been down longer
abbrev pub longer_down : Option Spare → Spare → Option Spare
longer_down None other = Some other
longer_down (Some first) other = if nat_le first.since_ms other.since_ms then Some first else Some other

-- the same, given what a table has for each peer
abbrev pub IsFirstDown : Expiry → List ℕ → Option Spare → Type 0
IsFirstDown expiry holders (Some first) =
    (spare_since holders first.peer (known_in expiry first.peer) ≡ Some first.since_ms)
    × ((other other_ms : ℕ) → spare_since holders other (known_in expiry other) ≡ Some other_ms → first.since_ms ≤ other_ms)
IsFirstDown expiry holders None = (peer : ℕ) → spare_since holders peer (known_in expiry peer) ≡ None
