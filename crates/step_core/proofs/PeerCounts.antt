-- A listed peer, after one is set or removed.
use Rattle.std.proofs.Common.{◌≡◌, ◌≤◌, ◌==◌, ℕ, ◌+◌, Bool, true, false, cond, List, [], ◌∷◌, refl, sym, ap, ◌∙◌, arith}
use Rattle.std.specs.Prelude.{Some, None, find, filter, not, unwrap_or}
use Rattle.std.proofs.lemmas.Bool.{eqb-true, eq-eqb}
use Rattle.step_core.specs.States.{is_peer, peer_at, put_peer, unknown_peer}
use Rattle.step_core.specs.declared.peer.Peer.{Peer}
use Rattle.step_core.specs.Consistent.{count}
use Rattle.step_core.proofs.Counts.{one}

-- if two numbers are equal, they pass the same tests
same_test : (a b n : ℕ) → (a == b) ≡ true → (a == n) ≡ (b == n)
same_test a b n is = ap (λ (k : ℕ). k == n) (eqb-true a b is)

-- the peer that was set is found
pub put_peer-own : (p : Peer) (ps : List Peer) → peer_at (put_peer ps p) p.number ≡ p
put_peer-own p [] = ap (λ (b : Bool). unwrap_or (cond b (Some p) None) (unknown_peer p.number)) (eq-eqb p.number p.number refl)
put_peer-own p (q ∷ ps) = by (is_peer p.number q) refl (put_peer-own p ps)
  where
    by : (b : Bool) → is_peer p.number q ≡ b → peer_at (put_peer ps p) p.number ≡ p → peer_at (cond b (p ∷ ps) (q ∷ put_peer ps p)) p.number ≡ p
    by true is rest = ap (λ (c : Bool). unwrap_or (cond c (Some p) (find (is_peer p.number) ps)) (unknown_peer p.number)) (eq-eqb p.number p.number refl)
    by false is rest = ap (λ (c : Bool). unwrap_or (cond c (Some q) (find (is_peer p.number) (put_peer ps p))) (unknown_peer p.number)) is ∙ rest

-- no other peer is changed
pub put_peer-other : (p : Peer) (n : ℕ) → (p.number == n) ≡ false → (ps : List Peer) → peer_at (put_peer ps p) n ≡ peer_at ps n
put_peer-other p n other [] = ap (λ (b : Bool). unwrap_or (cond b (Some p) None) (unknown_peer n)) other
put_peer-other p n other (q ∷ ps) = by (is_peer p.number q) refl (put_peer-other p n other ps)
  where
    by : (b : Bool) → is_peer p.number q ≡ b → peer_at (put_peer ps p) n ≡ peer_at ps n → peer_at (cond b (p ∷ ps) (q ∷ put_peer ps p)) n ≡ peer_at (q ∷ ps) n
    by true is rest =
        ap (λ (c : Bool). unwrap_or (cond c (Some p) (find (is_peer n) ps)) (unknown_peer n)) other
        ∙ sym (ap (λ (c : Bool). unwrap_or (cond c (Some q) (find (is_peer n) ps)) (unknown_peer n)) (same_test q.number p.number n is ∙ other))
    by false is rest = at (is_peer n q) rest
      where
        at : (c : Bool) → peer_at (put_peer ps p) n ≡ peer_at ps n → unwrap_or (cond c (Some q) (find (is_peer n) (put_peer ps p))) (unknown_peer n) ≡ unwrap_or (cond c (Some q) (find (is_peer n) ps)) (unknown_peer n)
        at true rest = refl
        at false rest = rest

-- a peer that was removed isn't known
pub forgotten-own : (n : ℕ) (ps : List Peer) → peer_at (filter (λ p. not (is_peer n p)) ps) n ≡ unknown_peer n
forgotten-own n [] = refl
forgotten-own n (q ∷ ps) = by (is_peer n q) refl (forgotten-own n ps)
  where
    by : (b : Bool) → is_peer n q ≡ b → peer_at (filter (λ p. not (is_peer n p)) ps) n ≡ unknown_peer n → peer_at (cond (not b) (q ∷ filter (λ p. not (is_peer n p)) ps) (filter (λ p. not (is_peer n p)) ps)) n ≡ unknown_peer n
    by true is rest = rest
    by false is rest = ap (λ (c : Bool). unwrap_or (cond c (Some q) (find (is_peer n) (filter (λ p. not (is_peer n p)) ps))) (unknown_peer n)) is ∙ rest

pub forgotten-other : (n m : ℕ) → (n == m) ≡ false → (ps : List Peer) → peer_at (filter (λ p. not (is_peer n p)) ps) m ≡ peer_at ps m
forgotten-other n m other [] = refl
forgotten-other n m other (q ∷ ps) = by (is_peer n q) refl (forgotten-other n m other ps)
  where
    at : (c : Bool) → peer_at (filter (λ p. not (is_peer n p)) ps) m ≡ peer_at ps m → unwrap_or (cond c (Some q) (find (is_peer m) (filter (λ p. not (is_peer n p)) ps))) (unknown_peer m) ≡ unwrap_or (cond c (Some q) (find (is_peer m) ps)) (unknown_peer m)
    at true rest = refl
    at false rest = rest

    by : (b : Bool) → is_peer n q ≡ b → peer_at (filter (λ p. not (is_peer n p)) ps) m ≡ peer_at ps m → peer_at (cond (not b) (q ∷ filter (λ p. not (is_peer n p)) ps) (filter (λ p. not (is_peer n p)) ps)) m ≡ peer_at (q ∷ ps) m
    by true is rest = rest ∙ sym (ap (λ (c : Bool). unwrap_or (cond c (Some q) (find (is_peer m) ps)) (unknown_peer m)) (same_test q.number n m is ∙ other))
    by false is rest = at (is_peer m q) rest

-- each peer is listed once
pub put_peer-once : (p : Peer) (n : ℕ) (ps : List Peer) → count (is_peer n) ps ≤ 1 → count (is_peer n) (put_peer ps p) ≤ 1
put_peer-once p n [] few = by (p.number == n)
  where
    by : (b : Bool) → one b + 0 ≤ 1
    by true = omega arith
    by false = omega arith
put_peer-once p n (q ∷ ps) few = by (is_peer p.number q) refl few (put_peer-once p n ps)
  where
    other : (ps : List Peer) → (p.number == n) ≡ false → count (is_peer n) (put_peer ps p) ≡ count (is_peer n) ps
    other [] is = let e = ap one is in omega (arith, e)
    other (r ∷ rs) is = at (is_peer p.number r) refl (other rs is)
      where
        at : (b : Bool) → is_peer p.number r ≡ b → count (is_peer n) (put_peer rs p) ≡ count (is_peer n) rs → count (is_peer n) (cond b (p ∷ rs) (r ∷ put_peer rs p)) ≡ one (is_peer n r) + count (is_peer n) rs
        at true here rest = let e = ap one (same_test r.number p.number n here) in omega (arith, e)
        at false here rest = omega (arith, rest)

    here : (b : Bool) → (p.number == n) ≡ b → is_peer p.number q ≡ false → one (is_peer n q) + count (is_peer n) ps ≤ 1 → (count (is_peer n) ps ≤ 1 → count (is_peer n) (put_peer ps p) ≤ 1) → one (is_peer n q) + count (is_peer n) (put_peer ps p) ≤ 1
    here true is apart few rest =
        let e = ap one (ap (λ (k : ℕ). q.number == k) (sym (eqb-true p.number n is)) ∙ apart) in
        let more = rest (omega (arith, few)) in
        omega (arith, e, more)
    here false is apart few rest = let e = other ps is in omega (arith, e, few)

    by : (b : Bool) → is_peer p.number q ≡ b → one (is_peer n q) + count (is_peer n) ps ≤ 1 → (count (is_peer n) ps ≤ 1 → count (is_peer n) (put_peer ps p) ≤ 1) → count (is_peer n) (cond b (p ∷ ps) (q ∷ put_peer ps p)) ≤ 1
    by true is few rest = let e = ap one (same_test q.number p.number n is) in omega (arith, e, few)
    by false is few rest = here (p.number == n) refl is few rest
