use Rattle.std.proofs.Common.{◌≡◌, ◌≤◌, ◌+◌, ◌<◌, ℕ, true, List, [], Some, None, length, refl, sym, ap, ◌∙◌, arith, rules, if◌then◌else◌}
use Rattle.bandwidth_book.specs.Entries.{IsMoved, entry_on, held_in, kept, promised_in}
use Rattle.bandwidth_book.specs.Reservation.{Reservation, most, promised_after, takes_memory}
use Rattle.bandwidth_book.specs.Paths.{tunnel_eq}
use Rattle.bandwidth_book.specs.Tunnels.{entries_in, held_by_links, most_on}
use Rattle.bandwidth_book.specs.declared.reservation.BookOp.{BookOp}
use Rattle.bandwidth_book.specs.declared.link_entries.LinkEntry.{LinkEntry}
use Rattle.bandwidth_book.proofs.Moved.{promised, unmoved, unmoved_room}
use Rattle.bandwidth_book.proofs.Same.{tunnel_laws}
use Rattle.bandwidth_book.proofs.Sums.{total_insert}
use Rattle.bandwidth_book.proofs.Written.{by_key, no_length, unwritten, written}
use Rattle.bandwidth_book.proofs.tunnels.put_tunnel.Goals as goal

-- a new list with promises only holds nothing
nothing : (m : BookOp) (hs : List Reservation) (l p : ℕ) (before new : List LinkEntry) → takes_memory m ≡ true → before ≡ [] → IsMoved m hs (entry_on l before) (entry_on l new) → most (kept l new) p ≡ 0
nothing m hs l p before new t first moved =
    ap (λ us. most us p) (moved.kept ∙ promised m t (kept l before) hs ∙ ap (kept l) first)

-- it leaves the sums as they were
same : (m : BookOp) (hs : List Reservation) (l p a b : ℕ) (before new : List LinkEntry) → takes_memory m ≡ true → before ≡ [] → IsMoved m hs (entry_on l before) (entry_on l new)
    → a + most (kept l before) p ≡ b + most (kept l new) p → a ≡ b
same m hs l p a b before new t first moved sums =
    let after = nothing m hs l p before new t first moved in
    let start : most (kept l before) p ≡ 0 = ap (λ xs. most (kept l xs) p) first in
    omega (arith, sums, after, start)

pub returns-in_err-move_links-clause-sums : goal.returns-in_err-move_links-clause-sums
returns-in_err-move_links-clause-sums c = λ l p h q.
    let first : c.in_ok-entries.entries ≡ [] = search rules in
    let less : l < length c.args.sums.now = (let n = c.move_links.ensures.count in omega (arith, h, n)) in
    same c.args.op _ l p _ _ c.in_ok-entries.entries c.move_links.new.self c.requires.promise first (c.move_links.ensures.moved l less) (c.move_links.ensures.sums l p less q) ∙ c.requires.sums l p less q

pub returns-in_err-insert_tunnel-clause-sums : goal.returns-in_err-insert_tunnel-clause-sums
returns-in_err-insert_tunnel-clause-sums c = λ l p h q.
    let first : c.in_ok-entries.entries ≡ [] = search rules in
    let less : l < length c.args.sums.now = (let n = c.move_links.ensures.count in omega (arith, h, n)) in
    rw c.in_err-insert_tunnel.ensures.err (same c.args.op _ l p _ _ c.in_ok-entries.entries c.move_links.new.self c.requires.promise first (c.move_links.ensures.moved l less) (c.move_links.ensures.sums l p less q) ∙ c.requires.sums l p less q)

pub returns-in_ok-insert_tunnel-clause-sums : goal.returns-in_ok-insert_tunnel-clause-sums
returns-in_ok-insert_tunnel-clause-sums c = λ l p h q.
    let first : c.in_ok-entries.entries ≡ [] = search rules in
    let less : l < length c.args.sums.now = (let n = c.move_links.ensures.count in omega (arith, h, n)) in
    let moved = c.move_links.ensures.moved l less in
    rw c.in_ok-insert_tunnel.ensures.entries (same c.args.op _ l p _ _ c.in_ok-entries.entries c.move_links.new.self c.requires.promise first moved (c.move_links.ensures.sums l p less q) ∙ c.requires.sums l p less q
    ∙ sym (total_insert (most_on l p) tunnel_eq c.args.tunnels.now.entries c.args.tunnel c.move_links.new.self (nothing c.args.op _ l p c.in_ok-entries.entries c.move_links.new.self c.requires.promise first moved) c.requires.none))

pub returns-in_ok-insert_tunnel-clause-moved : goal.returns-in_ok-insert_tunnel-clause-moved
returns-in_ok-insert_tunnel-clause-moved c = λ l k h.
    let first : c.in_ok-entries.entries ≡ [] = search rules in
    rw (by_key c.args.tunnel c.args.held l k c.args.links.now) (written tunnel_laws
    (λ b o u. IsMoved c.args.op (if b then held_by_links c.args.held l c.args.links.now else []) (entry_on l (entries_in o)) (entry_on l (entries_in u))) c.args.tunnels.now.entries c.insert_tunnel.new.tunnels.entries c.args.tunnel None (Some c.move_links.new.self) c.requires.none c.in_ok-insert_tunnel.ensures.updates
    (rw first at (c.move_links.ensures.moved l h)) (λ v. unmoved c.args.op (entry_on l (entries_in v))) k)

pub returns-in_ok-insert_tunnel-clause-past : goal.returns-in_ok-insert_tunnel-clause-past
returns-in_ok-insert_tunnel-clause-past c = λ l k h.
    let first : c.in_ok-entries.entries ≡ [] = search rules in
    written tunnel_laws
    (λ b o u. held_in (entry_on l (entries_in u)) ≡ held_in (entry_on l (entries_in o))) c.args.tunnels.now.entries c.insert_tunnel.new.tunnels.entries c.args.tunnel None (Some c.move_links.new.self) c.requires.none c.in_ok-insert_tunnel.ensures.updates
    (rw first at (c.move_links.ensures.past l h)) (λ v. refl) k

pub returns-in_ok-insert_tunnel-clause-ok : goal.returns-in_ok-insert_tunnel-clause-ok
returns-in_ok-insert_tunnel-clause-ok c = λ l k h.
    let first : c.in_ok-entries.entries ≡ [] = search rules in
    rw (by_key c.args.tunnel c.args.held l k c.args.links.now) (written tunnel_laws
    (λ b o u. promised_after c.args.op (length (if b then held_by_links c.args.held l c.args.links.now else [])) (promised_in (entry_on l (entries_in o))) ≤ promised_in (entry_on l (entries_in u))) c.args.tunnels.now.entries c.insert_tunnel.new.tunnels.entries c.args.tunnel None (Some c.move_links.new.self) c.requires.none c.in_ok-insert_tunnel.ensures.updates
    (rw first at (c.in_ok-move_links.ensures.ok l h)) (λ v. unmoved_room c.args.op (entry_on l (entries_in v))) k)

pub returns-else-not-is_empty-clause-sums : goal.returns-else-not-is_empty-clause-sums
returns-else-not-is_empty-clause-sums c = λ l p h q.
    let first : c.in_ok-entries.entries ≡ [] = search rules in
    let less : l < length c.args.sums.now = (let n = c.move_links.ensures.count in omega (arith, h, n)) in
    same c.args.op _ l p _ _ c.in_ok-entries.entries c.move_links.new.self c.requires.promise first (c.move_links.ensures.moved l less) (c.move_links.ensures.sums l p less q) ∙ c.requires.sums l p less q

pub returns-else-not-is_empty-clause-ok : goal.returns-else-not-is_empty-clause-ok
returns-else-not-is_empty-clause-ok c = λ l k h.
    let first : c.in_ok-entries.entries ≡ [] = search rules in
    let none : length c.move_links.new.self ≡ 0 = search rules in
    let last : c.move_links.new.self ≡ [] = no_length c.move_links.new.self (omega (arith, none)) in
    rw (by_key c.args.tunnel c.args.held l k c.args.links.now) (unwritten tunnel_laws
    (λ b o. promised_after c.args.op (length (if b then held_by_links c.args.held l c.args.links.now else [])) (promised_in (entry_on l (entries_in o))) ≤ promised_in (entry_on l (entries_in o))) c.args.tunnels.now.entries c.args.tunnel c.requires.none
    (rw (first, last) at (c.in_ok-move_links.ensures.ok l h)) (λ v. unmoved_room c.args.op (entry_on l (entries_in v))) k)
