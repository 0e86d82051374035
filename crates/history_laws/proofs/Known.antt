-- A peer that isn't known has no path, and so no record and no awaited name.
use Rattle.std.proofs.Common.{◌≡◌, ◌==◌, ◌&&◌, ℕ, ◌+◌, Bool, true, false, cond, List, [], ◌∷◌, filter, find, IsPermutation, refl, sym, ap, ◌∙◌, subst, arith, ◌≤◌, not}
use Rattle.std.specs.Prelude.{Option, Some, None, is_some, All, unwrap_or}
use Rattle.std.proofs.lemmas.Bool.{and_from, and_parts, and_right, both_ways, eqb-true, eq-eqb}
use Rattle.std.proofs.lemmas.List.Elements.{All-nil, All-cons}
use Rattle.lsp_base.specs.Lsps.{Lsps, changed, dropping, is_path_of, is_record_of}
use Rattle.lsp_base.specs.Grants.{is_unbound_grant, has_srp}
use Rattle.lsp_base.specs.declared.path.Path.{Path}
use Rattle.lsp_base.specs.declared.effect.Record.{Record}
use Rattle.lsp_base.proofs.Removal.{has_filter}
use Rattle.sync_rules.specs.Peers.{is_of_peer, expire_effect}
use Rattle.step_core.specs.Consistent.{IsConsistent, count}
use Rattle.step_core.specs.Laws.{OthersStay, is_other}
use Rattle.step_core.specs.Names.{is_of_grant}
use Rattle.step_core.specs.States.{State, is_known, is_peer, put_peer, peer_at}
use Rattle.step_core.specs.declared.names.AwaitedName.{AwaitedName}
use Rattle.step_core.specs.declared.peer.Peer.{Peer}
use Rattle.step_core.proofs.Counts.{one, count-exchanged, count-fewer, count-filter, count-permuted, count-same}
use Rattle.history_laws.specs.WellFormed.{AreOfKnownPeers}
use Rattle.lsp_words.specs.declared.object.Capabilities.{Capabilities}
use Rattle.pcep_messages.specs.declared.message.Message.{Message}
use Rattle.lsp_base.specs.Refusals.{unless, ◌⨟◌}
use Rattle.lsp_base.specs.declared.why.Why.{Why}
use Rattle.lsp_base.specs.declared.why.Why.TheVariants.{UnknownPeer}

-- if the peer isn't known, it has no path
abbrev pub KnownAt : State → ℕ → Type 0
KnownAt s n = is_known s.peers n ≡ false → count (is_of_peer n) s.base.paths ≡ 0

pub where_known : (s : State) (n : ℕ) → is_known s.peers n ≡ true → KnownAt s n
where_known s n known = λ no. absurd (both_ways (is_known s.peers n) no known)

-- ---- all that is known is of known peers, if no path is of a peer that isn't known

all_known : {X : Type 0} (f : X → ℕ) (peers : List Peer) (xs : List X) → ((n : ℕ) → is_known peers n ≡ false → count (λ x. f x == n) xs ≡ 0) → All (λ x. is_known peers (f x) ≡ true) xs
all_known f peers [] none = All-nil (λ x. is_known peers (f x) ≡ true)
all_known {X} f peers (x ∷ xs) none = All-cons (λ y. is_known peers (f y) ≡ true) x xs (by (is_known peers (f x)) refl) (all_known f peers xs (λ n no. let e = none n no in omega (arith, e)))
  where
    by : (b : Bool) → is_known peers (f x) ≡ b → is_known peers (f x) ≡ true
    by true is = is
    by false is = let e = none (f x) is in let own = ap one (eq-eqb (f x) (f x) refl) in absurd (omega (arith, e, own))

-- if no item of a list has this first number with any second, none has this first number
none_with : {X : Type 0} (f g : X → ℕ) (n : ℕ) (xs : List X) → ((k : ℕ) → count (λ x. f x == n && g x == k) xs ≡ 0) → count (λ x. f x == n) xs ≡ 0
none_with f g n [] none = refl
none_with {X} f g n (x ∷ xs) none = by (f x == n) refl (none_with f g n xs (λ k. let e = none k in omega (arith, e)))
  where
    by : (b : Bool) → (f x == n) ≡ b → count (λ y. f y == n) xs ≡ 0 → one b + count (λ y. f y == n) xs ≡ 0
    by true is rest = let e = none (g x) in let own = ap one (and_from (f x == n) (g x == g x) is (eq-eqb (g x) (g x) refl)) in absurd (omega (arith, e, own))
    by false is rest = omega (arith, rest)

no_records : (s : State) (n : ℕ) → IsConsistent s → count (is_of_peer n) s.base.paths ≡ 0 → (q : ℕ) → count (is_record_of n q) s.base.records ≡ 0
no_records s n c none q = by (q == 0) refl
  where
    by : (b : Bool) → (q == 0) ≡ b → count (is_record_of n q) s.base.records ≡ 0
    by true is =
        let zero = c.numbered in
        let fewer = count-fewer (is_record_of n q) (λ (r : Record). r.plsp == 0) (λ r has. subst (λ (k : ℕ). (r.plsp == k) ≡ true) (eqb-true q 0 is) (and_parts (r.peer == n) (r.plsp == q) has).1) s.base.records in
        omega (arith, zero, fewer)
    by false bound =
        let kept = c.kept n q bound in
        let fewer = count-fewer (is_path_of n q) (is_of_peer n) (λ (x : Path) has. (and_parts (x.peer == n) (x.plsp == q) has).0) s.base.paths in
        omega (arith, kept, fewer, none)

no_names : (s : State) (n : ℕ) → IsConsistent s → count (is_of_peer n) s.base.paths ≡ 0 → (k : ℕ) → count (is_of_grant n k) s.names ≡ 0
no_names s n c none k =
    let same = c.names n k in
    let fewer = count-fewer (is_unbound_grant n (Some k)) (is_of_peer n) (λ (x : Path) has. (and_parts (x.peer == n) (x.plsp == 0) (and_parts (x.peer == n && x.plsp == 0) (has_srp (Some k) x.part) has).0).0) s.base.paths in
    omega (arith, same, fewer, none)

pub all_of_known : (s : State) → IsConsistent s → ((n : ℕ) → KnownAt s n) → AreOfKnownPeers s
all_of_known s c known = record {
  paths = all_known (λ (x : Path). x.peer) s.peers s.base.paths known;
  records = all_known (λ (r : Record). r.peer) s.peers s.base.records (λ n no. none_with (λ (r : Record). r.peer) (λ (r : Record). r.plsp) n s.base.records (no_records s n c (known n no)));
  names = all_known (λ (a : AwaitedName). a.peer) s.peers s.names (λ n no. none_with (λ (a : AwaitedName). a.peer) (λ (a : AwaitedName). a.srp) n s.names (no_names s n c (known n no)));
}

-- ---- an event of another peer

other_one : (peer : Option ℕ) (m k : ℕ) → is_other peer m ≡ true → (is_other peer k && k == m) ≡ (k == m)
other_one peer m k other = by (k == m) refl
  where
    by : (b : Bool) → (k == m) ≡ b → (is_other peer k && b) ≡ b
    by true is = and_from (is_other peer k) true (subst (λ (j : ℕ). is_other peer j ≡ true) (sym (eqb-true k m is)) other) refl
    by false is = and_right (is_other peer k) false refl

others_count : (peer : Option ℕ) (m : ℕ) → is_other peer m ≡ true → (xs ys : List Path) → IsPermutation (filter (λ x. is_other peer x.peer) xs) (filter (λ x. is_other peer x.peer) ys) → count (is_of_peer m) ys ≡ count (is_of_peer m) xs
others_count peer m other xs ys same =
    let q : Path → Bool = λ x. is_other peer x.peer in
    let moved = count-permuted (is_of_peer m) (filter q xs) (filter q ys) same in
    let left = count-filter (is_of_peer m) q xs in
    let right = count-filter (is_of_peer m) q ys in
    let old = count-same (λ (x : Path). is_other peer x.peer && is_of_peer m x) (is_of_peer m) (λ x. other_one peer m x.peer other) xs in
    let new = count-same (λ (x : Path). is_other peer x.peer && is_of_peer m x) (is_of_peer m) (λ x. other_one peer m x.peer other) ys in
    omega (arith, moved, left, right, old, new)

find_kept : {X : Type 0} (p q : X → Bool) → ((x : X) → p x ≡ true → q x ≡ true) → (xs : List X) → find p (filter q xs) ≡ find p xs
find_kept p q kept [] = refl
find_kept {X} p q kept (x ∷ xs) = by (q x) (p x) refl refl (find_kept p q kept xs)
  where
    by : (a b : Bool) → q x ≡ a → p x ≡ b → find p (filter q xs) ≡ find p xs → find p (cond a (x ∷ filter q xs) (filter q xs)) ≡ cond b (Some x) (find p xs)
    by true b stays is rest = ap (λ (c : Bool). cond c (Some x) (find p (filter q xs))) is ∙ ap (λ (o : Option X). cond b (Some x) o) rest
    by false true goes is rest = absurd (both_ways (q x) goes (kept x is))
    by false false goes is rest = rest

others_known : (peer : Option ℕ) (m : ℕ) → is_other peer m ≡ true → (ps qs : List Peer) → filter (λ p. is_other peer p.number) qs ≡ filter (λ p. is_other peer p.number) ps → is_known qs m ≡ is_known ps m
others_known peer m other ps qs same =
    let kept : (p : Peer) → is_peer m p ≡ true → is_other peer p.number ≡ true = λ p is. subst (λ (j : ℕ). is_other peer j ≡ true) (sym (eqb-true p.number m is)) other in
    ap is_some (sym (find_kept (is_peer m) (λ (p : Peer). is_other peer p.number) kept qs) ∙ ap (find (is_peer m)) same ∙ find_kept (is_peer m) (λ (p : Peer). is_other peer p.number) kept ps)

pub other_known_at : (peer : Option ℕ) (s t : State) (m : ℕ) → is_other peer m ≡ true → OthersStay peer s t → KnownAt s m → KnownAt t m
other_known_at peer s t m other stay known = λ no. others_count peer m other s.base.paths t.base.paths stay.paths ∙ known (sym (others_known peer m other s.peers t.peers stay.peers) ∙ no)

-- ---- the peer of the event

put_known : (p : Peer) (ps : List Peer) → is_known (put_peer ps p) p.number ≡ true
put_known p [] = ap (λ (b : Bool). is_some (cond b (Some p) None)) (eq-eqb p.number p.number refl)
put_known p (q ∷ ps) = by (is_peer p.number q) refl (put_known p ps)
  where
    by : (b : Bool) → is_peer p.number q ≡ b → is_known (put_peer ps p) p.number ≡ true → is_known (cond b (p ∷ ps) (q ∷ put_peer ps p)) p.number ≡ true
    by true is rest = ap (λ (c : Bool). is_some (cond c (Some p) (find (is_peer p.number) ps))) (eq-eqb p.number p.number refl)
    by false is rest = ap (λ (c : Bool). is_some (cond c (Some q) (find (is_peer p.number) (put_peer ps p)))) is ∙ rest

-- a peer that was set is known
pub put_at : (n : ℕ) (ps : List Peer) (p : Peer) → p.number ≡ n → is_known (put_peer ps p) n ≡ true
put_at n ps p number = subst (λ (j : ℕ). is_known (put_peer ps p) j ≡ true) number (put_known p ps)

twice : (b : Bool) → (b && b) ≡ b
twice true = refl
twice false = refl

-- a peer that is forgotten has no path left
pub no_paths_left : (base : Lsps) (n : ℕ) → count (is_of_peer n) (changed base n (expire_effect base n)).paths ≡ 0
unfolding changed expire_effect dropping
no_paths_left base n =
    let paths = count-exchanged (is_of_peer n) base.paths (filter (is_of_peer n) base.paths) [] (has_filter (is_of_peer n) base.paths) in
    let gone = count-filter (is_of_peer n) (is_of_peer n) base.paths in
    let all = count-same (λ (x : Path). is_of_peer n x && is_of_peer n x) (is_of_peer n) (λ x. twice (x.peer == n)) base.paths in
    omega (arith, paths, gone, all)

-- ---- tests that pass

pub first_passes : (a b : Option Why) → (a ⨟ b) ≡ None → a ≡ None
first_passes (Some why) b is = is
first_passes None b is = refl

pub last_passes : (a b : Option Why) → (a ⨟ b) ≡ None → b ≡ None
last_passes (Some why) b is = absurd (cc (is))
last_passes None b is = is

pub test_passes : (b : Bool) (why : Why) → unless b why ≡ None → b ≡ true
test_passes true why is = refl
test_passes false why is = absurd (cc (is))
