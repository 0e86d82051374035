-- Sessions in the places of a slab, with a list of places that says where each peer's session is.
use Rattle.std.specs.Prelude.{◌≢◌, ℕ, List, [], ◌∷◌, Option, Some, None, IsSome}
use Rattle.slab.specs.Slab.{Slab, get}
use Rattle.engine_core.specs.declared.client.Client.{Client}
use Rattle.pce_engine.specs.Sessions.{Sessions}

-- a peer's session, if there is one, before the others
abbrev pub session_before : ℕ → Option Client → Sessions → Sessions
session_before peer None rest = rest
session_before peer (Some client) rest = (peer, client) ∷ rest

-- the sessions in their places' order
abbrev pub sessions_at : Slab Client → List (ℕ × ℕ) → Sessions
sessions_at clients [] = []
sessions_at clients (entry ∷ places) = session_before entry.0 (get clients entry.1) (sessions_at clients places)

-- no entry is at this place
abbrev pub IsApart : ℕ → List (ℕ × ℕ) → Type 0
IsApart place [] = Unit {0}
IsApart place (entry ∷ places) = (place ≢ entry.1) × IsApart place places

-- each entry has a session, and no two are at one place
abbrev pub ArePlaced : Slab Client → List (ℕ × ℕ) → Type 0
ArePlaced clients [] = Unit {0}
ArePlaced clients (entry ∷ places) = IsSome (get clients entry.1) × IsApart entry.1 places × ArePlaced clients places
