-- What may stand over a network is what is decided item by item.
use Rattle.std.proofs.Common.{◌≡◌, ◌≤◌, ◌<◌, ◌==◌, ◌&&◌, ◌||◌, ℕ, zero, suc, ◌+◌, Bool, true, false, true≢false, cond, not, nat_lt, nat_le, List, [], ◌∷◌, ◌++◌, length, take, get_or, filter, refl, sym, ap, ◌∙◌, subst, append_assoc, length-append, add-one, arith}
use Rattle.std.specs.Prelude.{Option, Some, None, find, is_some, option_map, if◌then◌else◌}
use Rattle.std.specs.List.{list_all, list_any}
use Rattle.std.proofs.lemmas.Bool.{and_from, and_parts, eqb-true, eq-eqb}
use Rattle.std.proofs.lemmas.Bool.Decides.{nat_tests}
use Rattle.std.proofs.lemmas.List.{append-nil}
use Rattle.te_base.specs.Ted as network
use Rattle.te_base.specs.Values.{Values, set_all_values, set_values, with_all_values, with_link_values, with_links_of, with_values}
use Rattle.te_base.specs.declared.network.Link.{Link}
use Rattle.te_base.proofs.Values.{same-length, same-set_all}
use Rattle.lsp_base.specs.Lsps.{Lsps, AreDistinct, changed, effect_of, is_path_of, is_record_of, lsp_at, put}
use Rattle.lsp_base.specs.Same.{is_reported}
use Rattle.lsp_base.specs.Grants.{has_grant, has_srp, is_grant_of, is_number, is_unbound_grant}
use Rattle.lsp_base.specs.Pending.{is_grant_as, is_removed_as}
use Rattle.lsp_base.specs.declared.effect.Record.{Record}
use Rattle.lsp_base.specs.declared.lsp.Lsp.{Lsp}
use Rattle.lsp_base.specs.declared.path.Path.{Path}
use Rattle.lsp_base.specs.declared.tunnel.Part.{Part}
use Rattle.lsp_base.specs.declared.tunnel.Part.TheVariants.{Reported, Granted}
use Rattle.delegate_rules.specs.Effects.{one_record}
use Rattle.initiate_rules.specs.Numbers.{is_srp_used}
use Rattle.commit_core.specs.declared.ticket.Ticket.{Ticket}
use Rattle.ticket_table.specs.Tickets.{AreInOrder, AreRisingFrom, all_have_tries, has_tries_left}
use Rattle.step_core.specs.Bases.{MayStand, known_in, state_over}
use Rattle.step_core.specs.Consistent.{IsConsistent, asked_as, count}
use Rattle.step_core.specs.Grants.{granting}
use Rattle.step_core.specs.Names.{is_of_grant}
use Rattle.step_core.specs.Networks.{Network, carried_out}
use Rattle.step_core.specs.Standing.{each_joins, is_named, is_named_part, is_new_part, is_new_removal, may_have_lsps, may_have_name, may_have_names, may_have_path, may_have_paths, may_have_peer, may_have_record, may_have_records, may_have_tickets, stands}
use Rattle.step_core.specs.States.{is_known, is_peer}
use Rattle.step_core.specs.declared.base.Base.{Base}
use Rattle.step_core.specs.declared.names.AwaitedName.{AwaitedName}
use Rattle.step_core.specs.declared.peer.Peer.{Peer}
use Rattle.step_core.proofs.ConsistentGrants.{none_used}
use Rattle.step_core.proofs.Counts.{one, count-append, count-fewer, count_of_none, none_of}
use Rattle.step_core.proofs.Kept.{count-length}

-- ---- tests and counts

not_true : (b : Bool) → not b ≡ true → b ≡ false
not_true true is = absurd (true≢false (sym is))
not_true false is = refl

or_right : (a b : Bool) → a ≡ false → (a || b) ≡ true → b ≡ true
or_right true b is some = absurd (true≢false is)
or_right false b is some = some

pub and_false : (b : Bool) → (b && false) ≡ false
and_false true = refl
and_false false = refl

own : (m : ℕ) → (m == m) ≡ true
own m = eq-eqb m m refl

own_pair : (m k : ℕ) → (m == m && k == k) ≡ true
own_pair m k = and_from (m == m) (k == k) (own m) (own k)

some_of : {X : Type 0} (p : X → Bool) (xs : List X) → list_any p xs ≡ true → 1 ≤ count p xs
some_of p [] some = absurd (true≢false (sym some))
some_of {X} p (x ∷ xs) some = by (p x) some (some_of p xs)
  where
    by : (b : Bool) → (b || list_any p xs) ≡ true → (list_any p xs ≡ true → 1 ≤ count p xs) → 1 ≤ cond b 1 0 + count p xs
    by true some rest = omega arith
    by false some rest = let more = rest some in omega (arith, more)

-- a stands at the place of b
moved_to : {X : Type 0} (F : ℕ → ℕ → X → Bool) (xs : List X) (n m : ℕ) (j : ℕ) (a b : ℕ) → (a == n) ≡ true → (b == m) ≡ true → count (F a b) xs ≡ j → count (F n m) xs ≡ j
moved_to F xs n m j a b first second is = subst (λ (k : ℕ). count (F k m) xs ≡ j) (eqb-true a n first) (subst (λ (k : ℕ). count (F a k) xs ≡ j) (eqb-true b m second) is)

found_any : {X : Type 0} (p : X → Bool) (xs : List X) → is_some (find p xs) ≡ list_any p xs
found_any p [] = refl
found_any {X} p (x ∷ xs) = by (p x) (found_any p xs)
  where
    by : (b : Bool) → is_some (find p xs) ≡ list_any p xs → is_some (cond b (Some x) (find p xs)) ≡ (b || list_any p xs)
    by true rest = refl
    by false rest = rest

mapped_some : {X Y : Type 0} (f : X → Y) (o : Option X) → is_some (option_map f o) ≡ is_some o
mapped_some f None = refl
mapped_some f (Some x) = refl

none_found : {X : Type 0} (p : X → Bool) (xs : List X) → is_some (find p xs) ≡ false → count p xs ≡ 0
none_found p xs is = count_of_none p xs (sym (found_any p xs) ∙ is)

one_found : {X : Type 0} (p : X → Bool) (xs : List X) → is_some (find p xs) ≡ true → 1 ≤ count p xs
one_found p xs is = some_of p xs (sym (found_any p xs) ∙ is)

used_some : (base : Lsps) (n k : ℕ) → is_srp_used base n k ≡ true → 1 ≤ asked_as base n k
used_some base n k used = by (list_any (is_grant_as n k) base.paths) refl used
  where
    by : (b : Bool) → list_any (is_grant_as n k) base.paths ≡ b → (b || list_any (is_removed_as n k) base.records) ≡ true → 1 ≤ asked_as base n k
    by true is used = let some = some_of (is_grant_as n k) base.paths is in omega (arith, some)
    by false is used = let some = some_of (is_removed_as n k) base.records used in omega (arith, some)

-- ---- lists of which each item is decided by those before it

each-stands : {X : Type 0} (P : List X → Type 0) (test : List X → X → Bool) → ((xs : List X) (x : X) → P xs → test xs x ≡ true → P (xs ++ x ∷ []))
    → (before rest : List X) → P before → each_joins test before rest ≡ true → P (before ++ rest)
each-stands P test grow before [] stand all = subst P (sym (append-nil before)) stand
each-stands P test grow before (x ∷ rest) stand all =
    let parts = and_parts (test before x) (each_joins test (before ++ x ∷ []) rest) all in
    subst P (append_assoc before (x ∷ []) rest) (each-stands P test grow (before ++ x ∷ []) rest (grow before x stand parts.0) parts.1)

each-stops : {X : Type 0} (P : List X → Type 0) (test : List X → X → Bool) → ((xs : List X) (x : X) (rest : List X) → test xs x ≡ false → P (xs ++ x ∷ rest) → ⊥)
    → (before rest : List X) → each_joins test before rest ≡ false → P (before ++ rest) → ⊥
each-stops P test stop before [] some stand = true≢false some
each-stops {X} P test stop before (x ∷ rest) some stand = by (test before x) refl some (λ later. each-stops P test stop (before ++ x ∷ []) rest later (subst P (sym (append_assoc before (x ∷ []) rest)) stand))
  where
    by : (b : Bool) → test before x ≡ b → (b && each_joins test (before ++ x ∷ []) rest) ≡ false → (each_joins test (before ++ x ∷ []) rest ≡ false → ⊥) → ⊥
    by true is some later = later some
    by false is some later = stop before x rest is stand

-- ---- paths

abbrev over : List Path → List Record → Lsps
over paths records = record { paths = paths; records = records }

record PathsStand (records : List Record) (paths : List Path) : Type 0 where
  pub few : length paths ≤ 16384
  pub asked : (peer srp : ℕ) → asked_as (over paths records) peer srp ≤ 1
  pub grants : (peer plsp : ℕ) → (plsp == 0) ≡ false → count (is_grant_of peer plsp) paths ≤ 1

-- one more path leaves at most one grant or awaited removal of an SRP-ID
part-asked : (lsps : Lsps) (x : Path) (part : Part) → ((m k : ℕ) → asked_as lsps m k ≤ 1) → is_new_part lsps x part ≡ true → (m k : ℕ) → asked_as lsps m k + one (x.peer == m && has_srp (Some k) part) ≤ 1
part-asked lsps x (Reported i) few new m k =
    let none = ap one (and_false (x.peer == m)) in
    let before = few m k in
    omega (arith, none, before)
part-asked lsps x (Granted srp) few new m k = by (x.peer == m && k == srp) refl
  where
    by : (b : Bool) → (x.peer == m && k == srp) ≡ b → asked_as lsps m k + one b ≤ 1
    by true is =
        let parts = and_parts (x.peer == m) (k == srp) is in
        let free = not_true (is_srp_used lsps x.peer srp) (and_parts (not (is_srp_used lsps x.peer srp)) (x.plsp == 0 || not (has_grant lsps.paths x.peer x.plsp)) new).0 in
        let none = none_used lsps x.peer srp free in
        let here : asked_as lsps m k ≡ 0 = subst (λ (j : ℕ). asked_as lsps j k ≡ 0) (eqb-true x.peer m parts.0) (subst (λ (j : ℕ). asked_as lsps x.peer j ≡ 0) (sym (eqb-true k srp parts.1)) none) in
        omega (arith, here)
    by false is = let before = few m k in omega (arith, before)

-- and at most one grant of an LSP
part-grants : (lsps : Lsps) (x : Path) (part : Part) (m q : ℕ) → (q == 0) ≡ false → count (is_grant_of m q) lsps.paths ≤ 1 → is_new_part lsps x part ≡ true
    → count (is_grant_of m q) lsps.paths + one (x.peer == m && x.plsp == q && not (is_reported part)) ≤ 1
part-grants lsps x (Reported i) m q bound few new =
    let none = ap one (and_false (x.peer == m && x.plsp == q)) in
    omega (arith, none, few)
part-grants lsps x (Granted srp) m q bound few new = by (x.peer == m && x.plsp == q) refl
  where
    by : (b : Bool) → (x.peer == m && x.plsp == q) ≡ b → count (is_grant_of m q) lsps.paths + one (b && true) ≤ 1
    by true is =
        let parts = and_parts (x.peer == m) (x.plsp == q) is in
        let rest = (and_parts (not (is_srp_used lsps x.peer srp)) (x.plsp == 0 || not (has_grant lsps.paths x.peer x.plsp)) new).1 in
        let numbered : (x.plsp == 0) ≡ false = ap (λ (k : ℕ). k == 0) (eqb-true x.plsp q parts.1) ∙ bound in
        let none = count_of_none (is_grant_of x.peer x.plsp) lsps.paths (not_true (has_grant lsps.paths x.peer x.plsp) (or_right (x.plsp == 0) (not (has_grant lsps.paths x.peer x.plsp)) numbered rest)) in
        let here = moved_to is_grant_of lsps.paths m q 0 x.peer x.plsp parts.0 parts.1 none in
        omega (arith, here)
    by false is = omega (arith, few)

part-stops : (lsps : Lsps) (x : Path) (part : Part) → ((m k : ℕ) → asked_as lsps m k + one (x.peer == m && has_srp (Some k) part) ≤ 1)
    → ((m q : ℕ) → (q == 0) ≡ false → count (is_grant_of m q) lsps.paths + one (x.peer == m && x.plsp == q && not (is_reported part)) ≤ 1) → is_new_part lsps x part ≡ false → ⊥
part-stops lsps x (Reported i) asked grants old = true≢false old
part-stops lsps x (Granted srp) asked grants old = by (is_srp_used lsps x.peer srp) (x.plsp == 0) (has_grant lsps.paths x.peer x.plsp) refl refl refl old
  where
    by : (used unbound granted : Bool) → is_srp_used lsps x.peer srp ≡ used → (x.plsp == 0) ≡ unbound → has_grant lsps.paths x.peer x.plsp ≡ granted → (not used && (unbound || not granted)) ≡ false → ⊥
    by true unbound granted is at has old =
        let some = used_some lsps x.peer srp is in
        let few = asked x.peer srp in
        let same = ap one (own_pair x.peer srp) in
        omega (arith, some, few, same)
    by false true granted is at has old = true≢false old
    by false false false is at has old = true≢false old
    by false false true is at has old =
        let some = some_of (is_grant_of x.peer x.plsp) lsps.paths has in
        let few = grants x.peer x.plsp at in
        let same = ap (λ (b : Bool). one (b && true)) (own_pair x.peer x.plsp) in
        omega (arith, some, few, same)

lt_of : (a b : ℕ) → nat_lt a b ≡ true → a < b
lt_of a b is = grind (arith, nat_tests)

ge_of : (a b : ℕ) → nat_lt a b ≡ false → b ≤ a
ge_of a b is = grind (arith, nat_tests)

path-joins : (records : List Record) (paths : List Path) (x : Path) → PathsStand records paths → may_have_path (over paths records) x ≡ true → PathsStand records (paths ++ x ∷ [])
path-joins records paths x h may =
    let parts = and_parts (nat_lt (length paths) 16384) (is_new_part (over paths records) x x.part) may in
    record {
      few = let more = length-append paths (x ∷ []) in let low = lt_of (length paths) 16384 parts.0 in omega (arith, more, low);
      asked = λ m k. (
          let more = count-append (is_grant_as m k) paths (x ∷ []) in
          let now = part-asked (over paths records) x x.part h.asked parts.1 m k in
          omega (arith, more, now));
      grants = λ m q bound. (
          let more = count-append (is_grant_of m q) paths (x ∷ []) in
          let now = part-grants (over paths records) x x.part m q bound (h.grants m q bound) parts.1 in
          omega (arith, more, now));
    }

path-stops : (records : List Record) (paths : List Path) (x : Path) (rest : List Path) → may_have_path (over paths records) x ≡ false → PathsStand records (paths ++ x ∷ rest) → ⊥
path-stops records paths x rest may_not h = by (nat_lt (length paths) 16384) refl may_not
  where
    by : (b : Bool) → nat_lt (length paths) 16384 ≡ b → (b && is_new_part (over paths records) x x.part) ≡ false → ⊥
    by true is old =
        part-stops (over paths records) x x.part
        (λ m k. let more = count-append (is_grant_as m k) paths (x ∷ rest) in let few = h.asked m k in omega (arith, more, few))
        (λ m q bound. let more = count-append (is_grant_of m q) paths (x ∷ rest) in let few = h.grants m q bound in omega (arith, more, few))
        old
    by false is old =
        let more = length-append paths (x ∷ rest) in
        let many = ge_of (length paths) 16384 is in
        let few = h.few in
        omega (arith, more, many, few)

-- ---- records

record RecordsStand (paths : List Path) (records : List Record) : Type 0 where
  pub distinct : AreDistinct records
  pub numbered : count (λ r. r.plsp == 0) records ≡ 0
  pub asked : (peer srp : ℕ) → asked_as (over paths records) peer srp ≤ 1
  pub kept : (peer plsp : ℕ) → (plsp == 0) ≡ false → count (is_record_of peer plsp) records ≤ count (is_path_of peer plsp) paths

known_none : (records : List Record) (m q : ℕ) → is_some (lsp_at records m q) ≡ false → count (is_record_of m q) records ≡ 0
known_none records m q is = none_found (is_record_of m q) records (sym (mapped_some (λ (r : Record). r.lsp) (find (is_record_of m q) records)) ∙ is)

known_some : (records : List Record) (m q : ℕ) → is_some (lsp_at records m q) ≡ true → 1 ≤ count (is_record_of m q) records
known_some records m q is = one_found (is_record_of m q) records (sym (mapped_some (λ (r : Record). r.lsp) (find (is_record_of m q) records)) ∙ is)

removal-asked : (lsps : Lsps) (n : ℕ) (o : Option ℕ) → ((m k : ℕ) → asked_as lsps m k ≤ 1) → is_new_removal lsps n o ≡ true → (m k : ℕ) → asked_as lsps m k + one (n == m && is_number o k) ≤ 1
removal-asked lsps n None few new m k =
    let none = ap one (and_false (n == m)) in
    let before = few m k in
    omega (arith, none, before)
removal-asked lsps n (Some srp) few new m k = by (n == m && srp == k) refl
  where
    by : (b : Bool) → (n == m && srp == k) ≡ b → asked_as lsps m k + one b ≤ 1
    by true is =
        let parts = and_parts (n == m) (srp == k) is in
        let none = none_used lsps n srp (not_true (is_srp_used lsps n srp) new) in
        let here : asked_as lsps m k ≡ 0 = subst (λ (j : ℕ). asked_as lsps j k ≡ 0) (eqb-true n m parts.0) (subst (λ (j : ℕ). asked_as lsps n j ≡ 0) (eqb-true srp k parts.1) none) in
        omega (arith, here)
    by false is = let before = few m k in omega (arith, before)

removal-stops : (lsps : Lsps) (n : ℕ) (o : Option ℕ) → ((m k : ℕ) → asked_as lsps m k + one (n == m && is_number o k) ≤ 1) → is_new_removal lsps n o ≡ false → ⊥
removal-stops lsps n None asked old = true≢false old
removal-stops lsps n (Some srp) asked old = by (is_srp_used lsps n srp) refl old
  where
    by : (b : Bool) → is_srp_used lsps n srp ≡ b → not b ≡ false → ⊥
    by false is old = true≢false old
    by true is old =
        let some = used_some lsps n srp is in
        let few = asked n srp in
        let same = ap one (own_pair n srp) in
        omega (arith, some, few, same)

-- a record of an LSP that had none, and that has a path
record-once : (paths : List Path) (records : List Record) (r : Record) → is_some (lsp_at records r.peer r.plsp) ≡ false → list_any (is_path_of r.peer r.plsp) paths ≡ true → (m q : ℕ) (b : Bool) → is_record_of m q r ≡ b
    → count (is_record_of m q) records ≤ 1 → (count (is_record_of m q) records + one b ≤ 1)
record-once paths records r new there m q true is few =
    let parts = and_parts (r.peer == m) (r.plsp == q) is in
    let none = moved_to is_record_of records m q 0 r.peer r.plsp parts.0 parts.1 (known_none records r.peer r.plsp new) in
    omega (arith, none)
record-once paths records r new there m q false is few = omega (arith, few)

record-kept : (paths : List Path) (records : List Record) (r : Record) → is_some (lsp_at records r.peer r.plsp) ≡ false → list_any (is_path_of r.peer r.plsp) paths ≡ true → (m q : ℕ) (b : Bool) → is_record_of m q r ≡ b
    → count (is_record_of m q) records ≤ count (is_path_of m q) paths → count (is_record_of m q) records + one b ≤ count (is_path_of m q) paths
record-kept paths records r new there m q true is fewer =
    let parts = and_parts (r.peer == m) (r.plsp == q) is in
    let none = moved_to is_record_of records m q 0 r.peer r.plsp parts.0 parts.1 (known_none records r.peer r.plsp new) in
    let same = moved_to is_path_of paths m q (count (is_path_of r.peer r.plsp) paths) r.peer r.plsp parts.0 parts.1 refl in
    let some = some_of (is_path_of r.peer r.plsp) paths there in
    omega (arith, none, same, some)
record-kept paths records r new there m q false is fewer = omega (arith, fewer)

record-joins : (paths : List Path) (records : List Record) (r : Record) → RecordsStand paths records → may_have_record (over paths records) r ≡ true → RecordsStand paths (records ++ r ∷ [])
record-joins paths records r h may =
    let numbered = not (r.plsp == 0) in
    let first = not (is_some (lsp_at records r.peer r.plsp)) in
    let there = list_any (is_path_of r.peer r.plsp) paths in
    let three = and_parts (numbered && first && there) (is_new_removal (over paths records) r.peer (r.lsp).removing) may in
    let two = and_parts (numbered && first) there three.0 in
    let pair = and_parts numbered first two.0 in
    let new = not_true (is_some (lsp_at records r.peer r.plsp)) pair.1 in
    record {
      distinct = λ m q. (
          let all = count-length (is_record_of m q) (records ++ r ∷ []) in
          let old = count-length (is_record_of m q) records in
          let few = h.distinct m q in
          let more = count-append (is_record_of m q) records (r ∷ []) in
          let now = record-once paths records r new two.1 m q (is_record_of m q r) refl (omega (arith, old, few)) in
          omega (arith, all, more, now));
      numbered = (
          let more = count-append (λ (x : Record). x.plsp == 0) records (r ∷ []) in
          let here = ap one (not_true (r.plsp == 0) pair.0) in
          let before = h.numbered in
          omega (arith, more, here, before));
      asked = λ m k. (
          let more = count-append (is_removed_as m k) records (r ∷ []) in
          let now = removal-asked (over paths records) r.peer (r.lsp).removing h.asked three.1 m k in
          omega (arith, more, now));
      kept = λ m q bound. (
          let more = count-append (is_record_of m q) records (r ∷ []) in
          let now = record-kept paths records r new two.1 m q (is_record_of m q r) refl (h.kept m q bound) in
          omega (arith, more, now));
    }

record-stops : (paths : List Path) (records : List Record) (r : Record) (rest : List Record) → may_have_record (over paths records) r ≡ false → RecordsStand paths (records ++ r ∷ rest) → ⊥
record-stops paths records r rest may_not h = by (r.plsp == 0) (is_some (lsp_at records r.peer r.plsp)) (list_any (is_path_of r.peer r.plsp) paths) (is_new_removal (over paths records) r.peer (r.lsp).removing) refl refl refl refl may_not
  where
    by : (unbound known there new : Bool) → (r.plsp == 0) ≡ unbound → is_some (lsp_at records r.peer r.plsp) ≡ known → list_any (is_path_of r.peer r.plsp) paths ≡ there → is_new_removal (over paths records) r.peer (r.lsp).removing ≡ new
        → (not unbound && not known && there && new) ≡ false → ⊥
    by true known there new z k t n may_not =
        let more = count-append (λ (x : Record). x.plsp == 0) records (r ∷ rest) in
        let here = ap one z in
        let none = h.numbered in
        omega (arith, more, here, none)
    by false true there new z k t n may_not =
        let more = count-append (is_record_of r.peer r.plsp) records (r ∷ rest) in
        let all = count-length (is_record_of r.peer r.plsp) (records ++ r ∷ rest) in
        let here = ap one (own_pair r.peer r.plsp) in
        let some = known_some records r.peer r.plsp k in
        let few = h.distinct r.peer r.plsp in
        omega (arith, more, all, here, some, few)
    by false false false new z k t n may_not =
        let more = count-append (is_record_of r.peer r.plsp) records (r ∷ rest) in
        let here = ap one (own_pair r.peer r.plsp) in
        let none = count_of_none (is_path_of r.peer r.plsp) paths t in
        let fewer = h.kept r.peer r.plsp z in
        omega (arith, more, here, none, fewer)
    by false false true false z k t n may_not =
        removal-stops (over paths records) r.peer (r.lsp).removing
        (λ m q. let more = count-append (is_removed_as m q) records (r ∷ rest) in let few = h.asked m q in omega (arith, more, few))
        n
    by false false true true z k t n may_not = true≢false may_not

-- ---- names

abbrev NamesFit : List Path → List AwaitedName → Type 0
NamesFit paths names = (m k : ℕ) → count (is_of_grant m k) names ≤ count (is_unbound_grant m (Some k)) paths

-- the name's grant, as the paths of its peer have it
grant_at : (paths : List Path) (n srp m k : ℕ) → (n == m) ≡ true → (srp == k) ≡ true → count (is_unbound_grant n (Some srp)) paths ≡ count (is_unbound_grant m (Some k)) paths
grant_at paths n srp m k first second = ap (λ (j : ℕ). count (is_unbound_grant j (Some srp)) paths) (eqb-true n m first) ∙ ap (λ (j : ℕ). count (is_unbound_grant m (Some j)) paths) (eqb-true srp k second)

name-joins : (paths : List Path) (names : List AwaitedName) (a : AwaitedName) → NamesFit paths names → may_have_name paths names a ≡ true → NamesFit paths (names ++ a ∷ [])
name-joins paths names a fit may m k = by (a.peer == m && a.srp == k) refl
  where
    by : (b : Bool) → (a.peer == m && a.srp == k) ≡ b → count (is_of_grant m k) (names ++ a ∷ []) ≤ count (is_unbound_grant m (Some k)) paths
    by true is =
        let both = and_parts (not (is_some (find (is_of_grant a.peer a.srp) names))) (list_any (is_unbound_grant a.peer (Some a.srp)) paths) may in
        let parts = and_parts (a.peer == m) (a.srp == k) is in
        let none = moved_to is_of_grant names m k 0 a.peer a.srp parts.0 parts.1 (none_found (is_of_grant a.peer a.srp) names (not_true (is_some (find (is_of_grant a.peer a.srp) names)) both.0)) in
        let some = some_of (is_unbound_grant a.peer (Some a.srp)) paths both.1 in
        let same = grant_at paths a.peer a.srp m k parts.0 parts.1 in
        let more = count-append (is_of_grant m k) names (a ∷ []) in
        let here = ap one is in
        omega (arith, none, some, same, more, here)
    by false is =
        let more = count-append (is_of_grant m k) names (a ∷ []) in
        let here = ap one is in
        let before = fit m k in
        omega (arith, more, here, before)

name-stops : (paths : List Path) → ((m k : ℕ) → count (is_unbound_grant m (Some k)) paths ≤ 1) → (names : List AwaitedName) (a : AwaitedName) (rest : List AwaitedName) → may_have_name paths names a ≡ false → NamesFit paths (names ++ a ∷ rest) → ⊥
name-stops paths once names a rest may_not fit = by (is_some (find (is_of_grant a.peer a.srp) names)) (list_any (is_unbound_grant a.peer (Some a.srp)) paths) refl refl may_not
  where
    more : count (is_of_grant a.peer a.srp) (names ++ a ∷ rest) ≡ count (is_of_grant a.peer a.srp) names + count (is_of_grant a.peer a.srp) (a ∷ rest)
    more = count-append (is_of_grant a.peer a.srp) names (a ∷ rest)

    here : one (a.peer == a.peer && a.srp == a.srp) ≡ 1
    here = ap one (own_pair a.peer a.srp)

    by : (held there : Bool) → is_some (find (is_of_grant a.peer a.srp) names) ≡ held → list_any (is_unbound_grant a.peer (Some a.srp)) paths ≡ there → (not held && there) ≡ false → ⊥
    by true there h t may_not =
        let some = one_found (is_of_grant a.peer a.srp) names h in
        let few = once a.peer a.srp in
        let fewer = fit a.peer a.srp in
        let all = more in
        let this = here in
        omega (arith, some, few, fewer, all, this)
    by false false h t may_not =
        let none = count_of_none (is_unbound_grant a.peer (Some a.srp)) paths t in
        let fewer = fit a.peer a.srp in
        let all = more in
        let this = here in
        omega (arith, none, fewer, all, this)
    by false true h t may_not = true≢false may_not

-- an unbound grant that has no name fails the test
unnamed : (names : List AwaitedName) (m k : ℕ) → count (is_of_grant m k) names ≡ 0 → (x : Path) (part : Part) → is_named_part names x part ≡ true → (x.peer == m && x.plsp == 0 && has_srp (Some k) part) ≡ false
unnamed names m k none x (Reported i) named = and_false (x.peer == m && x.plsp == 0)
unnamed names m k none x (Granted srp) named = by (x.peer == m) (x.plsp == 0) (k == srp) refl refl refl
  where
    by : (a b c : Bool) → (x.peer == m) ≡ a → (x.plsp == 0) ≡ b → (k == srp) ≡ c → (a && b && c) ≡ false
    by false b c peer plsp own = refl
    by true false c peer plsp own = refl
    by true true false peer plsp own = refl
    by true true true peer plsp own =
        let held : is_some (find (is_of_grant x.peer srp) names) ≡ true = or_right (not (x.plsp == 0)) (is_some (find (is_of_grant x.peer srp) names)) (ap not plsp) named in
        let some = one_found (is_of_grant x.peer srp) names held in
        let same : count (is_of_grant x.peer srp) names ≡ count (is_of_grant m k) names = ap (λ (j : ℕ). count (is_of_grant j srp) names) (eqb-true x.peer m peer) ∙ ap (λ (j : ℕ). count (is_of_grant m j) names) (sym (eqb-true k srp own)) in
        absurd (omega (arith, some, same, none))

-- if each unbound grant has a name, none is unnamed
all_named-fit : (names : List AwaitedName) (paths : List Path) → list_all (is_named names) paths ≡ true → (m k : ℕ) → count (is_of_grant m k) names ≡ 0 → count (is_unbound_grant m (Some k)) paths ≡ 0
all_named-fit names [] all m k none = refl
all_named-fit names (x ∷ xs) all m k none =
    let parts = and_parts (is_named names x) (list_all (is_named names) xs) all in
    let here = ap one (unnamed names m k none x x.part parts.0) in
    let rest = all_named-fit names xs parts.1 m k none in
    omega (arith, here, rest)

fit-named : (names : List AwaitedName) (x : Path) (part : Part) → ((m k : ℕ) → count (is_of_grant m k) names ≡ 0 → one (x.peer == m && x.plsp == 0 && has_srp (Some k) part) ≡ 0) → is_named_part names x part ≡ true
fit-named names x (Reported i) fit = refl
fit-named names x (Granted srp) fit = by (x.plsp == 0) (is_some (find (is_of_grant x.peer srp) names)) refl refl
  where
    by : (b h : Bool) → (x.plsp == 0) ≡ b → is_some (find (is_of_grant x.peer srp) names) ≡ h → (not b || h) ≡ true
    by false h plsp held = refl
    by true true plsp held = refl
    by true false plsp held =
        let none = fit x.peer srp (none_found (is_of_grant x.peer srp) names held) in
        let here = ap one (and_from (x.peer == x.peer && x.plsp == 0) (srp == srp) (and_from (x.peer == x.peer) (x.plsp == 0) (own x.peer) plsp) (own srp)) in
        absurd (omega (arith, none, here))

fit-all_named : (names : List AwaitedName) (paths : List Path) → ((m k : ℕ) → count (is_of_grant m k) names ≡ 0 → count (is_unbound_grant m (Some k)) paths ≡ 0) → list_all (is_named names) paths ≡ true
fit-all_named names [] fit = refl
fit-all_named names (x ∷ xs) fit =
    and_from (is_named names x) (list_all (is_named names) xs)
    (fit-named names x x.part (λ m k none. let all = fit m k none in omega (arith, all)))
    (fit-all_named names xs (λ m k none. let all = fit m k none in omega (arith, all)))

-- a grant that no report has bound is a grant of its SRP-ID
unbound_once : (paths : List Path) (records : List Record) → ((m k : ℕ) → asked_as (over paths records) m k ≤ 1) → (m k : ℕ) → count (is_unbound_grant m (Some k)) paths ≤ 1
unbound_once paths records asked m k =
    let fewer = count-fewer (is_unbound_grant m (Some k)) (is_grant_as m k) (λ x is. bound x is) paths in
    let few = asked m k in
    omega (arith, fewer, few)
  where
    bound : (x : Path) → is_unbound_grant m (Some k) x ≡ true → is_grant_as m k x ≡ true
    bound x is =
        let parts = and_parts (x.peer == m && x.plsp == 0) (has_srp (Some k) x.part) is in
        and_from (x.peer == m) (has_srp (Some k) x.part) (and_parts (x.peer == m) (x.plsp == 0) parts.0).0 parts.1

names-equal : (a b : ℕ) → a ≤ b → b ≤ 1 → (a ≡ 0 → b ≡ 0) → a ≡ b
names-equal zero b less few none = sym (none refl)
names-equal (suc a) b less few none = omega (arith, less, few)

-- ---- peers

abbrev PeersStand : List Peer → Type 0
PeersStand peers = (n : ℕ) → count (is_peer n) peers ≤ 1

peer-joins : (peers : List Peer) (p : Peer) → PeersStand peers → may_have_peer peers p ≡ true → PeersStand (peers ++ p ∷ [])
peer-joins peers p once may n = by (p.number == n) refl
  where
    by : (b : Bool) → (p.number == n) ≡ b → count (is_peer n) (peers ++ p ∷ []) ≤ 1
    by true is =
        let none = none_found (is_peer p.number) peers (not_true (is_known peers p.number) may) in
        let same = ap (λ (k : ℕ). count (is_peer k) peers) (eqb-true p.number n is) in
        let more = count-append (is_peer n) peers (p ∷ []) in
        let here = ap one is in
        omega (arith, none, same, more, here)
    by false is =
        let before = once n in
        let more = count-append (is_peer n) peers (p ∷ []) in
        let here = ap one is in
        omega (arith, before, more, here)

peer-stops : (peers : List Peer) (p : Peer) (rest : List Peer) → may_have_peer peers p ≡ false → PeersStand (peers ++ p ∷ rest) → ⊥
peer-stops peers p rest may_not once = by (is_known peers p.number) refl may_not
  where
    by : (b : Bool) → is_known peers p.number ≡ b → not b ≡ false → ⊥
    by false is may_not = true≢false may_not
    by true is may_not =
        let some = one_found (is_peer p.number) peers is in
        let few = once p.number in
        let more = count-append (is_peer p.number) peers (p ∷ rest) in
        let here = ap one (own p.number) in
        omega (arith, some, few, more, here)

-- ---- tickets

le_of : (a b : ℕ) → nat_le a b ≡ true → a ≤ b
le_of a b is = grind (arith, nat_tests)

of_le : (a b : ℕ) → a ≤ b → nat_le a b ≡ true
of_le a b le = grind (arith, nat_tests)

of_lt : (a b : ℕ) → a < b → nat_lt a b ≡ true
of_lt a b lt = grind (arith, nat_tests)

record TicketsStand (greatest last : ℕ) (tickets : List Ticket) : Type 0 where
  pub low : last ≤ greatest
  pub rising : AreRisingFrom (last + 1) tickets
  pub given : list_all (λ t. nat_le t.id greatest) tickets ≡ true
  pub tries : all_have_tries tickets ≡ true

tickets-stand : (greatest last : ℕ) (tickets : List Ticket) → may_have_tickets greatest last tickets ≡ true → TicketsStand greatest last tickets
tickets-stand greatest last [] may = record { low = le_of last greatest may; rising = tt; given = refl; tries = refl }
tickets-stand greatest last (t ∷ ts) may =
    let two = and_parts (nat_lt last t.id && has_tries_left t) (may_have_tickets greatest t.id ts) may in
    let one_by = and_parts (nat_lt last t.id) (has_tries_left t) two.0 in
    let above = lt_of last t.id one_by.0 in
    let later = tickets-stand greatest t.id ts two.1 in
    let low = later.low in
    record {
      low = omega (arith, above, low);
      rising = (omega (arith, above), later.rising);
      given = and_from (nat_le t.id greatest) (list_all (λ (u : Ticket). nat_le u.id greatest) ts) (of_le t.id greatest low) later.given;
      tries = and_from (has_tries_left t) (all_have_tries ts) one_by.1 later.tries;
    }

stand-tickets : (greatest last : ℕ) (tickets : List Ticket) → TicketsStand greatest last tickets → may_have_tickets greatest last tickets ≡ true
stand-tickets greatest last [] h = of_le last greatest h.low
stand-tickets greatest last (t ∷ ts) h =
    let given = and_parts (nat_le t.id greatest) (list_all (λ (u : Ticket). nat_le u.id greatest) ts) h.given in
    let tries = and_parts (has_tries_left t) (all_have_tries ts) h.tries in
    let above = (h.rising).0 in
    let later : TicketsStand greatest t.id ts = record { low = le_of t.id greatest given.0; rising = (h.rising).1; given = given.1; tries = tries.1 } in
    and_from (nat_lt last t.id && has_tries_left t) (may_have_tickets greatest t.id ts) (and_from (nat_lt last t.id) (has_tries_left t) (of_lt last t.id (omega (arith, above))) tries.0) (stand-tickets greatest t.id ts later)

-- ---- all of it

none_asked : (m k : ℕ) → asked_as (over [] []) m k ≤ 1
none_asked m k = omega arith

lsps-stand : (b : Base) → may_have_lsps b.paths b.records b.names ≡ true → PathsStand [] b.paths × RecordsStand b.paths b.records × ((m k : ℕ) → count (is_of_grant m k) b.names ≡ count (is_unbound_grant m (Some k)) b.paths)
lsps-stand b may =
    let two = and_parts (may_have_paths (over [] []) b.paths && may_have_records (over b.paths []) b.records) (may_have_names b.paths b.names) may in
    let first = and_parts (may_have_paths (over [] []) b.paths) (may_have_records (over b.paths []) b.records) two.0 in
    let named = and_parts (each_joins (may_have_name b.paths) [] b.names) (list_all (is_named b.names) b.paths) two.1 in
    let paths : PathsStand [] b.paths = each-stands (PathsStand []) (λ (xs : List Path) (x : Path). may_have_path (over xs []) x) (path-joins []) [] b.paths (record { few = omega arith; asked = none_asked; grants = λ m q bound. omega arith }) first.0 in
    let records : RecordsStand b.paths b.records = each-stands (RecordsStand b.paths) (λ (rs : List Record) (r : Record). may_have_record (over b.paths rs) r) (record-joins b.paths) [] b.records (record { distinct = λ m q. omega arith; numbered = refl; asked = paths.asked; kept = λ m q bound. omega arith }) first.1 in
    let fit : NamesFit b.paths b.names = each-stands (NamesFit b.paths) (may_have_name b.paths) (name-joins b.paths) [] b.names (λ m k. omega arith) named.0 in
    (paths, records, λ m k. names-equal (count (is_of_grant m k) b.names) (count (is_unbound_grant m (Some k)) b.paths) (fit m k) (unbound_once b.paths b.records records.asked m k) (all_named-fit b.names b.paths named.1 m k))

pub stands-may : (te : network.Ted) (b : Base) → stands te b ≡ true → MayStand te b
stands-may te b is =
    let values = length b.values == length te.links in
    let lsps = may_have_lsps b.paths b.records b.names in
    let three = and_parts (values && lsps && each_joins may_have_peer [] b.peers) (may_have_tickets b.last_ticket 0 b.tickets) is in
    let two = and_parts (values && lsps) (each_joins may_have_peer [] b.peers) three.0 in
    let pair = and_parts values lsps two.0 in
    let all = lsps-stand b pair.1 in
    let tickets = tickets-stand b.last_ticket 0 b.tickets three.1 in
    record {
      values = eqb-true (length b.values) (length te.links) pair.0;
      few = (all.0).few;
      consistent = record {
        distinct = (all.1).distinct;
        numbered = (all.1).numbered;
        asked = (all.1).asked;
        grants = (all.0).grants;
        kept = (all.1).kept;
        names = all.2;
        peers = each-stands PeersStand may_have_peer peer-joins [] b.peers (λ n. omega arith) two.1;
        tickets = record { rising = tickets.rising; given = tickets.given; tries = tickets.tries };
      };
    }

lsps-stop : (te : network.Ted) (b : Base) → may_have_lsps b.paths b.records b.names ≡ false → MayStand te b → ⊥
lsps-stop te b may_not h = by (may_have_paths (over [] []) b.paths) (may_have_records (over b.paths []) b.records) (each_joins (may_have_name b.paths) [] b.names) (list_all (is_named b.names) b.paths) refl refl refl refl may_not
  where
    c : IsConsistent (state_over te b)
    c = h.consistent

    by : (paths records names named : Bool) → may_have_paths (over [] []) b.paths ≡ paths → may_have_records (over b.paths []) b.records ≡ records → each_joins (may_have_name b.paths) [] b.names ≡ names → list_all (is_named b.names) b.paths ≡ named
        → (paths && records && (names && named)) ≡ false → ⊥
    by false records names named p r n l may_not =
        each-stops (PathsStand []) (λ (xs : List Path) (x : Path). may_have_path (over xs []) x) (path-stops []) [] b.paths p (record {
          few = h.few;
          asked = λ m k. let few = c.asked m k in omega (arith, few);
          grants = c.grants;
        })
    by true false names named p r n l may_not =
        each-stops (RecordsStand b.paths) (λ (rs : List Record) (x : Record). may_have_record (over b.paths rs) x) (record-stops b.paths) [] b.records r (record { distinct = c.distinct; numbered = c.numbered; asked = c.asked; kept = c.kept })
    by true true false named p r n l may_not =
        each-stops (NamesFit b.paths) (may_have_name b.paths) (name-stops b.paths (unbound_once b.paths b.records c.asked)) [] b.names n (λ m k. let same = c.names m k in omega (arith, same))
    by true true true false p r n l may_not = true≢false (sym (fit-all_named b.names b.paths (λ m k none. sym (c.names m k) ∙ none)) ∙ l)
    by true true true true p r n l may_not = true≢false may_not

pub may-stands : (te : network.Ted) (b : Base) → stands te b ≡ false → MayStand te b → ⊥
may-stands te b is h = by (length b.values == length te.links) (may_have_lsps b.paths b.records b.names) (each_joins may_have_peer [] b.peers) (may_have_tickets b.last_ticket 0 b.tickets) refl refl refl refl is
  where
    c : IsConsistent (state_over te b)
    c = h.consistent

    by : (values lsps peers tickets : Bool) → (length b.values == length te.links) ≡ values → may_have_lsps b.paths b.records b.names ≡ lsps → each_joins may_have_peer [] b.peers ≡ peers → may_have_tickets b.last_ticket 0 b.tickets ≡ tickets
        → (values && lsps && peers && tickets) ≡ false → ⊥
    by false lsps peers tickets v l p t is = true≢false (sym (eq-eqb (length b.values) (length te.links) h.values) ∙ v)
    by true false peers tickets v l p t is = lsps-stop te b l h
    by true true false tickets v l p t is = each-stops PeersStand may_have_peer peer-stops [] b.peers p c.peers
    by true true true false v l p t is =
        let order = c.tickets in
        true≢false (sym (stand-tickets b.last_ticket 0 b.tickets (record { low = omega arith; rising = order.rising; given = order.given; tries = order.tries })) ∙ t)
    by true true true true v l p t is = true≢false is

-- ---- one more item in a network

-- there is room for a path that may join
pub few-paths : (lsps : Lsps) (x : Path) → may_have_path lsps x ≡ true → length lsps.paths < 16384
few-paths lsps x may = lt_of (length lsps.paths) 16384 (and_parts (nat_lt (length lsps.paths) 16384) (is_new_part lsps x x.part) may).0

none_is : {X : Type 0} (o : Option X) → is_some o ≡ false → o ≡ None
none_is None is = refl
none_is (Some x) is = absurd (true≢false is)

-- nothing is known of the LSP of a record that may join
pub absent-record : (lsps : Lsps) (r : Record) → may_have_record lsps r ≡ true → lsp_at lsps.records r.peer r.plsp ≡ None
absent-record lsps r may =
    let numbered = not (r.plsp == 0) in
    let first = not (is_some (lsp_at lsps.records r.peer r.plsp)) in
    let there = list_any (is_path_of r.peer r.plsp) lsps.paths in
    let three = and_parts (numbered && first && there) (is_new_removal lsps r.peer (r.lsp).removing) may in
    let two = and_parts (numbered && first) there three.0 in
    none_is (lsp_at lsps.records r.peer r.plsp) (not_true (is_some (lsp_at lsps.records r.peer r.plsp)) (and_parts numbered first two.0).1)

-- no name is held for the grant of one that may join
pub absent-name : (paths : List Path) (names : List AwaitedName) (a : AwaitedName) → may_have_name paths names a ≡ true → list_any (is_of_grant a.peer a.srp) names ≡ false
absent-name paths names a may =
    let both = and_parts (not (is_some (find (is_of_grant a.peer a.srp) names))) (list_any (is_unbound_grant a.peer (Some a.srp)) paths) may in
    sym (found_any (is_of_grant a.peer a.srp) names) ∙ not_true (is_some (find (is_of_grant a.peer a.srp) names)) both.0

put-absent : (records : List Record) (n q : ℕ) (lsp : Lsp) → lsp_at records n q ≡ None → put records n q lsp ≡ records ++ record { peer = n; plsp = q; lsp = lsp } ∷ []
put-absent [] n q lsp none = refl
put-absent (r ∷ rs) n q lsp none = by (is_record_of n q r) none (put-absent rs n q lsp)
  where
    set : Record
    set = record { peer = n; plsp = q; lsp = lsp }

    by : (b : Bool) → option_map (λ (x : Record). x.lsp) (cond b (Some r) (find (is_record_of n q) rs)) ≡ None → (lsp_at rs n q ≡ None → put rs n q lsp ≡ rs ++ set ∷ []) → cond b (set ∷ rs) (r ∷ put rs n q lsp) ≡ r ∷ (rs ++ set ∷ [])
    by true none rest = absurd (true≢false (ap is_some none))
    by false none rest = ap (λ (l : List Record). r ∷ l) (rest none)

pub added-path : (n : Network) (x : Path) → carried_out n x.peer (granting x) ≡ record n { base = record n.base { paths = n.base.paths ++ x ∷ [] } }
unfolding changed
added-path n x = refl

pub added-record : (n : Network) (r : Record) → lsp_at n.base.records r.peer r.plsp ≡ None
    → carried_out n r.peer (effect_of [] [] (one_record r.plsp r.lsp) false) ≡ record n { base = record n.base { records = n.base.records ++ r ∷ [] } }
unfolding changed
added-record n r none =
    ap (λ (ps : List Path). record n { base = record { paths = ps; records = put n.base.records r.peer r.plsp r.lsp } }) (append-nil n.base.paths)
    ∙ ap (λ (rs : List Record). record n { base = record { paths = n.base.paths; records = rs } }) (put-absent n.base.records r.peer r.plsp r.lsp none)

-- ---- the values of links, one by one

set_none : (links : List Link) → set_all_values links [] ≡ links
set_none [] = refl
set_none (l ∷ ls) = refl

values-next : (links : List Link) (vs : List Values) (i : ℕ) (v : Values) → i < length vs → length vs ≡ length links → set_values (set_all_values links (take i vs)) i (get_or vs i v) ≡ set_all_values links (take (suc i) vs)
values-next [] [] i v low same = absurd (omega (arith, low))
values-next [] (w ∷ ws) i v low same = absurd (omega (arith, same))
values-next (l ∷ ls) [] i v low same = absurd (omega (arith, low))
values-next (l ∷ ls) (w ∷ ws) zero v low same = ap (λ (ks : List Link). with_values l w ∷ ks) (sym (set_none ls))
values-next (l ∷ ls) (w ∷ ws) (suc i) v low same = ap (λ (ks : List Link). with_values l w ∷ ks) (values-next ls ws i v (omega (arith, low)) (omega (arith, same)))

pub no-values : (te : network.Ted) → te ≡ with_all_values te []
no-values te = ap (λ (ls : List Link). with_links_of te ls) (sym (set_none te.links))

-- the next link has its values too
pub next-values : (te now next : network.Ted) (vs : List Values) (i : ℕ) (v : Values) → i < length vs → length vs ≡ length te.links → now ≡ with_all_values te (take i vs) → v ≡ get_or vs i v → next ≡ with_link_values now i v → next ≡ with_all_values te (take (i + 1) vs)
next-values te now next vs i v low same before there is =
    is
    ∙ ap (λ (t : network.Ted). with_link_values t i v) before
    ∙ ap (λ (w : Values). with_link_values (with_all_values te (take i vs)) i w) there
    ∙ ap (λ (ls : List Link). with_links_of te ls) (values-next te.links vs i v low same)
    ∙ ap (λ (k : ℕ). with_all_values te (take k vs)) (sym (add-one i))

-- and there are as many links as before
pub link-there : (te now : network.Ted) (vs : List Values) (i : ℕ) → i < length vs → length vs ≡ length te.links → now ≡ with_all_values te (take i vs) → i < length now.links
link-there te now vs i low same before =
    let long = same-length te (with_all_values te (take i vs)) (same-set_all te (take i vs)) in
    let here = ap (λ (t : network.Ted). length t.links) before in
    omega (arith, low, same, long, here)
