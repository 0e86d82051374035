use Rattle.std.proofs.Common.{◌≡◌, ◌≤◌, ◌<◌, ◌+◌, ◌^◌, ℕ, List, false, [], Some, None, length, refl, slice_get, sym, ap, subst, ◌∙◌, arith, rules, Option, true≢false, if◌then◌else◌, IfSome}
use Rattle.std.specs.List.{IsDistinct, swap_remove}
use Rattle.std.specs.Map.{lookup}
use Rattle.std.proofs.lemmas.Option.{none-some, same_Some}
use Rattle.indexmap.specs.IndexMap.{Updates, set_value_at, values, with_value_at}
use Rattle.indexmap.proofs.CallerLemmas.{keys-with_value_at}
use Rattle.lsp_base.specs.declared.tunnel.Tunnel.{Tunnel}
use Rattle.bandwidth_book.specs.Entries.{IsMoved, entry_on, held_in, promised_in}
use Rattle.bandwidth_book.specs.Reservation.{promised_after, room_for, takes_memory}
use Rattle.bandwidth_book.specs.Tunnels.{AreSums, entries_in, held_by_links, most_on, sum_at, tunnel_eq}
use Rattle.bandwidth_book.specs.declared.link_entries.LinkEntry.{LinkEntry}
use Rattle.bandwidth_book.proofs.Moved.{missing, unmoved, unmoved_room}
use Rattle.bandwidth_book.proofs.Places.{on_ok}
use Rattle.bandwidth_book.proofs.Replaced.{IsReplaced, at, is_full, removed, replaced, written_at}
use Rattle.bandwidth_book.proofs.Same.{tunnel_laws}
use Rattle.bandwidth_book.proofs.Sums.{one-le-total}
use Rattle.bandwidth_book.proofs.Written.{by_key, no_length, unwritten}
use Rattle.bandwidth_book.proofs.tunnels.move_in_tunnel.Goals as goal

-- the tunnel's entries are those that were lent
found : (c : goal.After-move_links-arg-in-Some-1) → lookup (tunnel_eq c.args.tunnel) c.args.tunnels.now.entries ≡ Some c.in-Some.entries.now
found c = sym c.place_of-place.ensures.value ∙ search rules

pub move_links-moved-requires-clause-room : goal.move_links-moved-requires-clause-room
move_links-moved-requires-clause-room c = λ l h.
    subst (λ o. room_for c.args.op (length (held_by_links c.args.held l c.args.links.now)) ≤ promised_in (entry_on l (entries_in o))) (found c) (c.requires.room l h)

pub move_links-moved-requires-clause-within : goal.move_links-moved-requires-clause-within
move_links-moved-requires-clause-within c = λ l p h q.
    let least = one-le-total (most_on l p) (tunnel_eq c.args.tunnel) c.args.tunnels.now.entries c.in-Some.entries.now (found c) in
    let s = c.requires.sums l p h q in
    omega (arith, least, s)

pub move_links-moved-requires-clause-least : goal.move_links-moved-requires-clause-least
move_links-moved-requires-clause-least c = λ l p h.
    subst (λ o. most_on l p o < 2 ^ 48) (found c) (c.requires.least l c.args.tunnel p h)

-- the sums follow the tunnel's entries
summed : {es new : List (Tunnel × List LinkEntry)} {t : Tunnel} {xs ys : List LinkEntry} {last : Option (List LinkEntry)} → IsReplaced es new t xs ys last → (sums more : List (List ℕ)) → length more ≡ length sums
    → ((l p : ℕ) → l < length sums → p < 8 → sum_at more l p + most_on l p (Some xs) ≡ sum_at sums l p + most_on l p (Some ys)) → AreSums sums es → AreSums more new
summed r sums more count moved before l p h q =
    let less : l < length sums = omega (arith, h, count) in
    let m = moved l p less q in
    let s = before l p less q in
    let after = r.totals l p in
    omega (arith, m, s, after)

written : (c : goal.Else-is_empty) → IsReplaced c.args.tunnels.now.entries (set_value_at c.args.tunnels.now.entries c.place_of-place.result c.move_links-moved.new.self) c.args.tunnel c.in-Some.entries.now c.move_links-moved.new.self (Some c.move_links-moved.new.self)
written c = written_at c.args.tunnels.now c.place_of-place.result c.args.tunnel c.in-Some.entries.now c.move_links-moved.new.self c.get_index_mut.ensures.unique (search rules) c.place_of-place.ensures.key c.place_of-place.ensures.value

gone : (c : goal.Joined-swap_remove_index) → IsReplaced c.args.tunnels.now.entries c.swap_remove_index.new.self.entries c.args.tunnel c.in-Some.entries.now c.move_links-moved.new.self None
gone c =
    let m = c.args.tunnels.now in
    let i = c.place_of-place.result in
    let ys = c.move_links-moved.new.self in
    let lent : slice_get (values m) i ≡ Some c.in-Some.entries.now = search rules in
    let there = at m i c.args.tunnel c.in-Some.entries.now ys c.get_index_mut.ensures.unique lent c.place_of-place.ensures.key c.place_of-place.ensures.value in
    let before = written_at m i c.args.tunnel c.in-Some.entries.now ys c.get_index_mut.ensures.unique lent c.place_of-place.ensures.key c.place_of-place.ensures.value in
    let is = c.swap_remove_index.ensures.entry ∙ there in
    let none : length ys ≡ 0 = c.if-is_empty.ensures.0 refl in
    let fewer = c.swap_remove_index.ensures.len in
    removed before c.swap_remove_index.new.self.entries i (no_length ys (omega (arith, none))) there
    (subst (λ o. IfSome o (λ p. c.swap_remove_index.new.self.entries ≡ swap_remove (set_value_at m.entries i ys) i p)) is c.swap_remove_index.ensures.entries)
    (subst (λ o. IfSome o (λ p. Updates tunnel_eq (with_value_at m i ys) c.swap_remove_index.new.self p.0 None)) is c.swap_remove_index.ensures.updates).0
    (omega (arith, fewer))

pub returns-then-is_empty-clause-sums : goal.returns-then-is_empty-clause-sums
returns-then-is_empty-clause-sums c = summed (gone c) c.args.sums.now c.move_links-moved.new.sums c.move_links-moved.ensures.count c.move_links-moved.ensures.sums c.requires.sums

pub returns-then-is_empty-clause-few : goal.returns-then-is_empty-clause-few
returns-then-is_empty-clause-few c = λ h. let n = (gone c).few in omega (arith, h, n)

pub returns-then-is_empty-clause-moved : goal.returns-then-is_empty-clause-moved
returns-then-is_empty-clause-moved c = λ l k h.
    rw (by_key c.args.tunnel c.args.held l k c.args.links.now) (replaced (gone c)
    (λ b o u. IsMoved c.args.op (if b then held_by_links c.args.held l c.args.links.now else []) (entry_on l o) (entry_on l u)) (c.move_links-moved.ensures.moved l h) (λ v. unmoved c.args.op (entry_on l v)) k)

pub returns-then-is_empty-clause-past : goal.returns-then-is_empty-clause-past
returns-then-is_empty-clause-past c = λ l k h. replaced (gone c) (λ b o u. held_in (entry_on l u) ≡ held_in (entry_on l o)) (c.move_links-moved.ensures.past l h) (λ v. refl) k

pub returns-then-is_empty-clause-ok : goal.returns-then-is_empty-clause-ok
returns-then-is_empty-clause-ok c =
    on_ok c.move_links-moved.result _ _ c.move_links-moved.ensures.ok (λ room l k h.
    rw (by_key c.args.tunnel c.args.held l k c.args.links.now) (replaced (gone c)
    (λ b o u. promised_after c.args.op (length (if b then held_by_links c.args.held l c.args.links.now else [])) (promised_in (entry_on l o)) ≤ promised_in (entry_on l u)) (room l h) (λ v. unmoved_room c.args.op (entry_on l v)) k))

pub returns-then-is_empty-clause-full : goal.returns-then-is_empty-clause-full
returns-then-is_empty-clause-full c = is_full (gone c) (λ e. none-some [] e) c.requires.full

pub returns-else-is_empty-clause-sums : goal.returns-else-is_empty-clause-sums
returns-else-is_empty-clause-sums c = summed (written c) c.args.sums.now c.move_links-moved.new.sums c.move_links-moved.ensures.count c.move_links-moved.ensures.sums c.requires.sums

pub returns-else-is_empty-clause-few : goal.returns-else-is_empty-clause-few
returns-else-is_empty-clause-few c = λ h. let n = (written c).few in omega (arith, h, n)

pub returns-else-is_empty-clause-moved : goal.returns-else-is_empty-clause-moved
returns-else-is_empty-clause-moved c = λ l k h.
    rw (by_key c.args.tunnel c.args.held l k c.args.links.now) (replaced (written c)
    (λ b o u. IsMoved c.args.op (if b then held_by_links c.args.held l c.args.links.now else []) (entry_on l o) (entry_on l u)) (c.move_links-moved.ensures.moved l h) (λ v. unmoved c.args.op (entry_on l v)) k)

pub returns-else-is_empty-clause-past : goal.returns-else-is_empty-clause-past
returns-else-is_empty-clause-past c = λ l k h. replaced (written c) (λ b o u. held_in (entry_on l u) ≡ held_in (entry_on l o)) (c.move_links-moved.ensures.past l h) (λ v. refl) k

pub returns-else-is_empty-clause-ok : goal.returns-else-is_empty-clause-ok
returns-else-is_empty-clause-ok c =
    on_ok c.move_links-moved.result _ _ c.move_links-moved.ensures.ok (λ room l k h.
    rw (by_key c.args.tunnel c.args.held l k c.args.links.now) (replaced (written c)
    (λ b o u. promised_after c.args.op (length (if b then held_by_links c.args.held l c.args.links.now else [])) (promised_in (entry_on l o)) ≤ promised_in (entry_on l u)) (room l h) (λ v. unmoved_room c.args.op (entry_on l v)) k))

pub returns-else-is_empty-clause-full : goal.returns-else-is_empty-clause-full
returns-else-is_empty-clause-full c = is_full (written c) (λ e. let z : length c.move_links-moved.new.self ≡ 0 = ap length (same_Some c.move_links-moved.new.self [] e) in true≢false (sym (c.if-is_empty.ensures.1 z))) c.requires.full

pub returns-else-is_empty-clause-unique : goal.returns-else-is_empty-clause-unique
returns-else-is_empty-clause-unique c = subst (IsDistinct tunnel_eq) (sym (keys-with_value_at c.args.tunnels.now c.place_of-place.result c.move_links-moved.new.self)) c.get_index_mut.ensures.unique

pub returns-else-takes_memory-clause-moved : goal.returns-else-takes_memory-clause-moved
returns-else-takes_memory-clause-moved c = λ l k h.
    let none : lookup (tunnel_eq c.args.tunnel) c.args.tunnels.now.entries ≡ None = sym c.place_of-place.ensures.value ∙ search rules in
    let fixed : takes_memory c.args.op ≡ false = sym c.takes_memory.ensures ∙ search rules in
    rw (by_key c.args.tunnel c.args.held l k c.args.links.now) (unwritten tunnel_laws
    (λ b o. IsMoved c.args.op (if b then held_by_links c.args.held l c.args.links.now else []) (entry_on l (entries_in o)) (entry_on l (entries_in o))) c.args.tunnels.now.entries c.args.tunnel none
    (missing c.args.op _ fixed (subst (λ o. room_for c.args.op (length (held_by_links c.args.held l c.args.links.now)) ≤ promised_in (entry_on l (entries_in o))) none (c.requires.room l h)))
    (λ v. unmoved c.args.op (entry_on l (entries_in v))) k)
