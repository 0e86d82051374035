-- What a walk over links does with one entry.
use Rattle.std.proofs.Common.{◌≡◌, ◌≤◌, ◌<◌, ◌+◌, ◌^◌, ◌==◌, ◌&&◌, ℕ, zero, suc, nat_le, max, Bool, true, false, true≢false, List, [], ◌∷◌, ◌++◌, Option, Some, None, length, length-append, refl, sym, ap, ◌∙◌, arith, if◌then◌else◌}
use Rattle.bandwidth_book.specs.Entries.{IsBusy, IsMoved, IsSame, IsShifted, held_in, promised_in}
use Rattle.lsp_base.specs.declared.tunnel.Tunnel.{Tunnel}
use Rattle.bandwidth_book.specs.Tunnels.{held_by_path, tunnel_eq}
use Rattle.bandwidth_book.specs.Reservation.{Reservation, changes_held, most, moved_all, moved_one, promised_after, room_for, takes_memory, with_all, without_all}
use Rattle.bandwidth_book.specs.Holdings.{Holdings}
use Rattle.bandwidth_book.specs.declared.reservation.BookOp.{BookOp}
use Rattle.bandwidth_book.specs.declared.reservation.BookOp.TheVariants.{Promise, Add, Drop, Withdraw}
use Rattle.bandwidth_book.proofs.Sums.{at_most, most-without_one, most_with_one}
use Rattle.bandwidth_book.proofs.Written.{no_length}

-- ---- what is held

pub moved_add : (hs xs : List Reservation) → moved_all Add hs xs ≡ with_all hs xs
moved_add hs [] = refl
moved_add hs (x ∷ xs) = moved_add (moved_one Add x hs) xs

pub moved_drop : (hs xs : List Reservation) → moved_all Drop hs xs ≡ without_all hs xs
moved_drop hs [] = refl
moved_drop hs (x ∷ xs) = moved_drop (moved_one Drop x hs) xs

pub withdrawn : (hs xs : List Reservation) → moved_all Withdraw hs xs ≡ hs
withdrawn hs [] = refl
withdrawn hs (x ∷ xs) = withdrawn hs xs

pub promised : (m : BookOp) → takes_memory m ≡ true → (hs xs : List Reservation) → moved_all m hs xs ≡ hs
promised Promise e hs [] = refl
promised Promise e hs (x ∷ xs) = promised Promise e hs xs
promised Add e hs xs = absurd (true≢false (sym e))
promised Drop e hs xs = absurd (true≢false (sym e))
promised Withdraw e hs xs = absurd (true≢false (sym e))

moved_append : (m : BookOp) (hs xs ys : List Reservation) → moved_all m hs (xs ++ ys) ≡ moved_all m (moved_all m hs xs) ys
moved_append m hs [] ys = refl
moved_append m hs (x ∷ xs) ys = moved_append m (moved_one m x hs) xs ys

pub held_stays : (m : BookOp) (h : Reservation) (hs : List Reservation) → changes_held m ≡ false → moved_one m h hs ≡ hs
held_stays Promise h hs e = refl
held_stays Add h hs e = absurd (true≢false e)
held_stays Drop h hs e = absurd (true≢false e)
held_stays Withdraw h hs e = refl

-- the greatest rises no higher than the one that is moved
pub most_moved : (m : BookOp) (h : Reservation) (hs : List Reservation) (p : ℕ) → most (moved_one m h hs) p ≤ max h.bandwidth (most hs p)
most_moved Promise h hs p = omega arith
most_moved Add h hs p = let m = most_with_one h hs p in let b = at_most (nat_le h.hold p) h.bandwidth in omega (arith, m, b)
most_moved Drop h hs p = let m = most-without_one h hs p in omega (arith, m)
most_moved Withdraw h hs p = omega arith

-- so a path's part keeps the greatest below a bound if its own bandwidth is below it
pub small_by_path : (m : BookOp) (own : Tunnel) (h : Reservation) (l : ℕ) (t : Tunnel) (links : List ℕ) (hs us : List Reservation) (p : ℕ) → us ≡ moved_all m hs (held_by_path own h l t links)
    → h.bandwidth < 2 ^ 48 → most hs p < 2 ^ 48 → most us p < 2 ^ 48
small_by_path m own h l t [] hs us p e small old = rw e old
small_by_path m own h l t (x ∷ xs) hs us p e small old = go (x == l && tunnel_eq own t) (λ ks f low. small_by_path m own h l t xs ks us p f small low) (e ∙ moved_append m hs (if x == l && tunnel_eq own t then h ∷ [] else []) (held_by_path own h l t xs))
  where
    go : (b : Bool) → ((ks : List Reservation) → us ≡ moved_all m ks (held_by_path own h l t xs) → most ks p < 2 ^ 48 → most us p < 2 ^ 48) → us ≡ moved_all m (moved_all m hs (if b then h ∷ [] else [])) (held_by_path own h l t xs) → most us p < 2 ^ 48
    go true rest f = rest (moved_one m h hs) f (let one = most_moved m h hs p in omega (arith, small, old, one))
    go false rest f = rest hs f old

-- ---- what is promised

after_none : (m : BookOp) (p : ℕ) → promised_after m 0 p ≡ p
after_none Promise p = omega arith
after_none Add p = omega arith
after_none Drop p = refl
after_none Withdraw p = refl

pub after_both : (m : BookOp) (a b p : ℕ) → promised_after m (a + b) p ≡ promised_after m b (promised_after m a p)
after_both Promise a b p = omega arith
after_both Add a b p = omega arith
after_both Drop a b p = refl
after_both Withdraw zero b p = ap (λ (n : ℕ). promised_after Withdraw n p) (omega arith)
after_both Withdraw (suc a) b p = some (suc a + b) p (omega arith) ∙ sym (none b)
  where
    some : (n p : ℕ) → 0 < n → promised_after Withdraw n p ≡ 0
    some zero p h = absurd (omega (arith, h))
    some (suc n) p h = refl

    none : (n : ℕ) → promised_after Withdraw n 0 ≡ 0
    none zero = refl
    none (suc n) = refl

pub after_least : (m : BookOp) (n p q : ℕ) → p ≤ q → promised_after m n p ≤ promised_after m n q
after_least Promise n p q h = omega (arith, h)
after_least Add n p q h = omega (arith, h)
after_least Drop n p q h = h
after_least Withdraw zero p q h = h
after_least Withdraw (suc n) p q h = omega arith

pub room_next : (m : BookOp) (a b p q : ℕ) → room_for m (a + b) ≤ p → promised_after m a p ≤ q → room_for m b ≤ q
room_next Promise a b p q r h = omega arith
room_next Add a b p q r h = omega (arith, r, h)
room_next Drop a b p q r h = omega arith
room_next Withdraw a b p q r h = omega arith

pub after_next : (m : BookOp) (a b p q end : ℕ) → end ≤ promised_after m (a + b) p → promised_after m a p ≤ q → end ≤ promised_after m b q
after_next m a b p q end e h = let both = after_both m a b p in let least = after_least m b _ q h in omega (arith, e, both, least)

-- a promise needs no room
pub no_room_for : (m : BookOp) (n p : ℕ) → takes_memory m ≡ true → room_for m n ≤ p
no_room_for Promise n p e = omega arith
no_room_for Add n p e = absurd (true≢false (sym e))
no_room_for Drop n p e = omega arith
no_room_for Withdraw n p e = omega arith

-- ---- an entry

pub unmoved : (m : BookOp) (o : Option Holdings) → IsMoved m [] o o
unmoved m o = record { kept = refl; busy = λ b. b; below = (let e = after_none m (promised_in o) in omega (arith, e)) }

pub unmoved_room : (m : BookOp) (o : Option Holdings) → promised_after m 0 (promised_in o) ≤ promised_in o
unmoved_room m o = let e = after_none m (promised_in o) in omega (arith, e)

-- one op after another
pub moved_both : (m : BookOp) (a b : List Reservation) (o u v : Option Holdings) → IsMoved m a o u → IsMoved m b u v → IsMoved m (a ++ b) o v
moved_both m a b o u v x y = record {
  kept = y.kept ∙ ap (λ hs. moved_all m hs b) x.kept ∙ sym (moved_append m (held_in o) a b);
  busy = λ h. y.busy (x.busy h);
  below = (let below = y.below in
      let first = after_least m (length b) _ _ x.below in
      let both = after_both m (length a) (length b) (promised_in o) in
      let long = ap (λ n. promised_after m n (promised_in o)) (length-append a b) in
      omega (arith, below, first, both, long));
}

-- if a promise is refused on the way, nothing is promised for the rest
pub moved_part : (m : BookOp) (a b : List Reservation) (o u : Option Holdings) → takes_memory m ≡ true → IsMoved m a o u → IsMoved m (a ++ b) o u
moved_part Promise a b o u e x = record {
  kept = x.kept ∙ promised Promise refl (held_in o) a ∙ sym (promised Promise refl (held_in o) (a ++ b));
  busy = x.busy;
  below = (let below = x.below in let long = length-append a b in omega (arith, below, long));
}
moved_part Add a b o u e x = absurd (true≢false (sym e))
moved_part Drop a b o u e x = absurd (true≢false (sym e))
moved_part Withdraw a b o u e x = absurd (true≢false (sym e))

-- a promise that is refused changes nothing
pub refused : (m : BookOp) (hs : List Reservation) (o : Option Holdings) → takes_memory m ≡ true → IsMoved m hs o o
refused m hs o t = moved_part m [] hs o o t (unmoved m o)

-- ---- an entry that may be left with nothing

pub shifted : (m : BookOp) (hs : List Reservation) (o u : Option Holdings) → IsMoved m hs o u → IsShifted m hs o u
shifted m hs o u x = record { kept = x.kept; below = x.below }

pub unshifted : (m : BookOp) (o : Option Holdings) → IsShifted m [] o o
unshifted m o = shifted m [] o o (unmoved m o)

pub shifted_both : (m : BookOp) (a b : List Reservation) (o u v : Option Holdings) → IsShifted m a o u → IsShifted m b u v → IsShifted m (a ++ b) o v
shifted_both m a b o u v x y = record {
  kept = y.kept ∙ ap (λ hs. moved_all m hs b) x.kept ∙ sym (moved_append m (held_in o) a b);
  below = (let below = y.below in
      let first = after_least m (length b) _ _ x.below in
      let both = after_both m (length a) (length b) (promised_in o) in
      let long = ap (λ n. promised_after m n (promised_in o)) (length-append a b) in
      omega (arith, below, first, both, long));
}

-- if a promise is refused on the way, nothing is promised for the rest
pub shifted_part : (m : BookOp) (a b : List Reservation) (o u : Option Holdings) → takes_memory m ≡ true → IsShifted m a o u → IsShifted m (a ++ b) o u
shifted_part Promise a b o u e x = record {
  kept = x.kept ∙ promised Promise refl (held_in o) a ∙ sym (promised Promise refl (held_in o) (a ++ b));
  below = (let below = x.below in let long = length-append a b in omega (arith, below, long));
}
shifted_part Add a b o u e x = absurd (true≢false (sym e))
shifted_part Drop a b o u e x = absurd (true≢false (sym e))
shifted_part Withdraw a b o u e x = absurd (true≢false (sym e))

-- a promise that is refused changes nothing
pub not_shifted : (m : BookOp) (hs : List Reservation) (o : Option Holdings) → takes_memory m ≡ true → IsShifted m hs o o
not_shifted m hs o t = shifted m hs o o (refused m hs o t)

-- nor does a promise that is refused after entries were made for it
pub same_shifted : (m : BookOp) (hs : List Reservation) (o u : Option Holdings) → takes_memory m ≡ true → IsSame o u → IsShifted m hs o u
same_shifted m hs o u t same =
    let none = not_shifted m hs o t in
    record { kept = same.kept ∙ none.kept; below = (let below = none.below in let as_many = same.promised in omega (arith, below, as_many)) }

-- an entry that stays, an entry that comes, and no entry
pub stays : (m : BookOp) (h : Reservation) (e new : Holdings) → new.held ≡ moved_one m h e.held → new.promised ≤ promised_after m 1 e.promised → IsShifted m (h ∷ []) (Some e) (Some new)
stays m h e new held below = record { kept = held; below = below }

pub comes : (m : BookOp) (h : Reservation) (e : Holdings) → takes_memory m ≡ true → e.held ≡ moved_one m h [] → e.promised ≡ promised_after m 1 0 → IsShifted m (h ∷ []) None (Some e)
comes Promise h e t held promised = record { kept = held; below = omega (arith, promised) }
comes Add h e t held promised = absurd (true≢false (sym t))
comes Drop h e t held promised = absurd (true≢false (sym t))
comes Withdraw h e t held promised = absurd (true≢false (sym t))

-- for an entry that comes, room is promised
pub comes_busy : (m : BookOp) (e : Holdings) → takes_memory m ≡ true → e.promised ≡ promised_after m 1 0 → IsBusy (Some e)
comes_busy Promise e t promised = λ there nothing. omega (arith, promised)
comes_busy Add e t promised = absurd (true≢false (sym t))
comes_busy Drop e t promised = absurd (true≢false (sym t))
comes_busy Withdraw e t promised = absurd (true≢false (sym t))

pub missing : (m : BookOp) (hs : List Reservation) → takes_memory m ≡ false → room_for m (length hs) ≤ 0 → IsMoved m hs None None
missing m hs t room = record { kept = none m hs t room; busy = λ b. b; below = omega arith }
  where
    nothing_dropped : (xs : List Reservation) → [] ≡ moved_all Drop [] xs
    nothing_dropped [] = refl
    nothing_dropped (x ∷ xs) = nothing_dropped xs

    none : (m : BookOp) (hs : List Reservation) → takes_memory m ≡ false → room_for m (length hs) ≤ 0 → [] ≡ moved_all m [] hs
    none Promise hs t room = absurd (true≢false t)
    none Add hs t room = ap (λ (xs : List Reservation). moved_all Add [] xs) (sym (no_length hs room))
    none Drop hs t room = nothing_dropped hs
    none Withdraw hs t room = sym (withdrawn [] hs)

pub not_there : (m : BookOp) (hs : List Reservation) → takes_memory m ≡ false → room_for m (length hs) ≤ 0 → IsShifted m hs None None
not_there m hs t room = shifted m hs None None (missing m hs t room)
