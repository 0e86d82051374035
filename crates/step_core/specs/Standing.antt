-- Whether what was read may stand over a network. The items of each list are taken in order, and each is decided by what
-- stands before it.
use Rattle.std.specs.Prelude.{ℕ, Bool, true, ◌==◌, ◌&&◌, ◌||◌, not, List, [], ◌∷◌, ◌++◌, length, find, Option, Some, None, is_some, nat_lt, nat_le}
use Rattle.std.specs.List.{list_all, list_any}
use Rattle.te_base.specs.Ted as network
use Rattle.lsp_base.specs.Lsps.{Lsps, is_path_of, lsp_at, no_lsps}
use Rattle.lsp_base.specs.Grants.{has_grant, is_unbound_grant}
use Rattle.lsp_base.specs.declared.effect.Record.{Record}
use Rattle.lsp_base.specs.declared.path.Path.{Path}
use Rattle.lsp_base.specs.declared.tunnel.Part.{Part}
use Rattle.lsp_base.specs.declared.tunnel.Part.TheVariants.{Reported, Granted}
use Rattle.initiate_rules.specs.Numbers.{is_srp_used}
use Rattle.commit_core.specs.declared.ticket.Ticket.{Ticket}
use Rattle.ticket_table.specs.Tickets.{has_tries_left}
use Rattle.step_core.specs.Names.{is_of_grant}
use Rattle.step_core.specs.States.{is_known}
use Rattle.step_core.specs.declared.base.Base.{Base}
use Rattle.step_core.specs.declared.names.AwaitedName.{AwaitedName}
use Rattle.step_core.specs.declared.peer.Peer.{Peer}

-- each item may join those before it
abbrev pub each_joins : {X : Type 0} → (List X → X → Bool) → List X → List X → Bool
each_joins may_join before [] = true
each_joins may_join before (x ∷ rest) = may_join before x && each_joins may_join (before ++ x ∷ []) rest

-- ---- paths

-- the path isn't a grant, or no grant or removal of the peer has its SRP-ID, and its LSP has no grant yet
abbrev pub is_new_part : Lsps → Path → Part → Bool
is_new_part lsps x (Reported id) = true
is_new_part lsps x (Granted srp) = not (is_srp_used lsps x.peer srp) && (x.plsp == 0 || not (has_grant lsps.paths x.peer x.plsp))

abbrev pub may_have_path : Lsps → Path → Bool
may_have_path lsps x = nat_lt (length lsps.paths) 16384 && is_new_part lsps x x.part

abbrev pub may_have_paths : Lsps → List Path → Bool
may_have_paths lsps more = each_joins (λ paths x. may_have_path (record { paths = paths; records = lsps.records }) x) lsps.paths more

-- ---- records

-- no removal is awaited, or no grant or removal of the peer has its SRP-ID
abbrev pub is_new_removal : Lsps → ℕ → Option ℕ → Bool
is_new_removal lsps peer None = true
is_new_removal lsps peer (Some srp) = not (is_srp_used lsps peer srp)

-- the LSP has a PLSP-ID, no record yet, and a path
abbrev pub may_have_record : Lsps → Record → Bool
may_have_record lsps r = not (r.plsp == 0) && not (is_some (lsp_at lsps.records r.peer r.plsp)) && list_any (is_path_of r.peer r.plsp) lsps.paths && is_new_removal lsps r.peer (r.lsp).removing

abbrev pub may_have_records : Lsps → List Record → Bool
may_have_records lsps more = each_joins (λ records r. may_have_record (record { paths = lsps.paths; records = records }) r) lsps.records more

-- ---- names of granted initiations

-- no name is held for the grant yet, the grant exists, and no report has bound it
abbrev pub may_have_name : List Path → List AwaitedName → AwaitedName → Bool
may_have_name paths names a = not (is_some (find (is_of_grant a.peer a.srp) names)) && list_any (is_unbound_grant a.peer (Some a.srp)) paths

-- a name is held for the path, if it is a grant that no report has bound yet
abbrev pub is_named_part : List AwaitedName → Path → Part → Bool
is_named_part names x (Reported id) = true
is_named_part names x (Granted srp) = not (x.plsp == 0) || is_some (find (is_of_grant x.peer srp) names)

abbrev pub is_named : List AwaitedName → Path → Bool
is_named names x = is_named_part names x x.part

abbrev pub may_have_names : List Path → List AwaitedName → Bool
may_have_names paths names = each_joins (may_have_name paths) [] names && list_all (is_named names) paths

-- ---- peers and tickets

abbrev pub may_have_peer : List Peer → Peer → Bool
may_have_peer peers p = not (is_known peers p.number)

-- the tickets' numbers rise above the last one so far, and none is above the greatest
abbrev pub may_have_tickets : ℕ → ℕ → List Ticket → Bool
may_have_tickets greatest last [] = nat_le last greatest
may_have_tickets greatest last (t ∷ rest) = nat_lt last t.id && has_tries_left t && may_have_tickets greatest t.id rest

-- ---- all of it

abbrev pub may_have_lsps : List Path → List Record → List AwaitedName → Bool
may_have_lsps paths records names = may_have_paths no_lsps paths && may_have_records (record { paths = paths; records = [] }) records && may_have_names paths names

abbrev pub stands : network.Ted → Base → Bool
stands te b = length b.values == length te.links && may_have_lsps b.paths b.records b.names && each_joins may_have_peer [] b.peers && may_have_tickets b.last_ticket 0 b.tickets
