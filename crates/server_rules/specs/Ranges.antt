-- The ranges of what a run may be given.
use Rattle.std.specs.Prelude.{◌≤◌, ◌-◌, ⊤}
use Rattle.server_rules.specs.declared.orders.Sessions.{Sessions}
use Rattle.server_rules.specs.declared.orders.Sessions.TheVariants.{Count, Endless}
use Rattle.server_rules.specs.declared.orders.Orders.{Orders}

-- 1 to 1,000 connections in all, or any number
abbrev pub AreSessions : Sessions → Type 0
AreSessions (Count n) = (1 ≤ n) × (n ≤ 1000)
AreSessions Endless = ⊤

-- 1 to 16 workers, at most an hour for a peer that is down and before tickets are taken, and 16 to 65,536 megabytes for
-- the history
abbrev pub AreOrders : Orders → Type 0
AreOrders orders = (1 ≤ orders.workers) × (orders.workers ≤ 16) × AreSessions orders.sessions × (orders.keep_seconds ≤ 3600) × (orders.settle_seconds ≤ 3600) × (16 ≤ orders.history_megabytes) × (orders.history_megabytes ≤ 65536)

-- how many connections are still to come after one came
abbrev pub one_fewer : Sessions → Sessions
one_fewer (Count n) = Count (n - 1)
one_fewer Endless = Endless
