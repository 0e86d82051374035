-- How many tickets one router may have. At most 1,024 may stand.
use Rattle.std.specs.Prelude.{◌==◌, ℕ, ◌-◌, Bool, nat_lt, List, length, count_by}
use Rattle.commit_core.specs.declared.ticket.Ticket.{Ticket}

abbrev pub own_tickets : List Ticket → ℕ → ℕ
own_tickets tickets peer = count_by (λ t. t.peer == peer) tickets

-- the peer has fewer tickets than there are free ones, so one peer takes at most half of them
abbrev pub has_share : List Ticket → ℕ → Bool
has_share tickets peer = nat_lt (own_tickets tickets peer) (1024 - length tickets)
