-- What the sessions are after a `&mut` to one of them is returned.
use Rattle.std.specs.Prelude.{ℕ, Option}
use Rattle.std.specs.Borrow.{LendsIf, Fml, MutBor}
use Rattle.std.specs.Map.{set_value}
use Rattle.engine_core.specs.declared.client.Client.{Client}
use Rattle.engine_core.specs.contracts.client.Client.{the_row as client_row}
use Rattle.pce_engine.specs.contracts.sessions.Sessions.{the_row}
use Rattle.pce_engine.specs.Sessions.{Sessions, is_peer}

-- after the borrow ends, the peer has the session that the borrower left there
abbrev pub lends_session : MutBor Sessions → ℕ → Option (MutBor Client) → Fml
lends_session s peer r = LendsIf the_row client_row s r (set_value (is_peer peer) s.now) s.now
