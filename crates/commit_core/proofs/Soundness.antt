-- No grant takes what isn't there.
use Rattle.std.proofs.Common.{◌≡◌, ◌≤◌, ◌<◌, ℕ, zero, suc, ◌+◌, ◌-◌, Bool, true, false, T, ◌==◌, ◌||◌, ◌&&◌, nat_le, nat_lt, not, max, int_le, pos, ℤ, List, [], ◌∷◌, ◌++◌, length, refl, sym, ap, subst, ◌∙◌, arith, inl, inr, true≢false, if◌then◌else◌}
use Rattle.std.specs.Prelude.{◌≤ℤ◌, Some}
use Rattle.std.specs.List.{list_all, list_any, range_with_len}
use Rattle.std.proofs.lemmas.Bool.{cases_Bool, and_parts}
use Rattle.std.proofs.lemmas.Bool.Decides.{nat_tests}
use Rattle.te_base.specs.Ted.{Ted}
use Rattle.te_base.specs.declared.network.Link.{Link}
use Rattle.te_snapshot.specs.Admissible.{keeps_other_bounds}
use Rattle.lsp_base.specs.Lsps.{Lsps}
use Rattle.lsp_base.specs.Shares.{fits, fits_at, has_link, priorities, rises, share, unreserved}
use Rattle.lsp_base.specs.declared.lsp.Constraints.{Constraints}
use Rattle.lsp_base.specs.declared.path.Path.{Path}
use Rattle.bandwidth_book.proofs.Fits.{share_with}
use Rattle.bandwidth_book.specs.Paths.{tunnel_eq}
use Rattle.commit_core.specs.Routes.{is_route, is_admissible, is_acceptable}
use Rattle.commit_core.specs.Sound.{LeavesRoom}
use Rattle.commit_core.specs.Verdicts.{accepted, is_gone, verdict}
use Rattle.commit_core.specs.declared.ticket.Ticket.{Ticket}
use Rattle.commit_core.specs.declared.verdict.PeerView.{PeerView}
use Rattle.commit_core.specs.declared.verdict.Verdict.{Verdict}
use Rattle.commit_core.specs.declared.verdict.Verdict.TheVariants.{Grant, Answer, Again, GivenUp, Gone}

-- ---- what is granted fits

not_tried : (low : Bool) → (if low then Again else GivenUp) ≡ Grant → ⊥
not_tried true h = cc
not_tried false h = cc

fit_of : (gone route fit keeps low : Bool) (outcome : Verdict) → (if gone then Gone else (if (route && fit) && keeps then outcome else (if low then Again else GivenUp))) ≡ Grant → fit ≡ true
fit_of true route fit keeps low outcome h = cc
fit_of false route true keeps low outcome h = refl
fit_of false true false keeps low outcome h = absurd (not_tried low h)
fit_of false false false keeps low outcome h = absurd (not_tried low h)

pub granted_fits : (t : Ticket) (g : Path) (lsps : Lsps) (te : Ted) (v : PeerView) → verdict t (Some g) lsps te v ≡ Grant → fits te.links lsps.paths g t.constraints.priorities.setup ≡ true
unfolding verdict
granted_fits t g lsps te v h =
    fit_of (is_gone lsps t v) (is_route te t.constraints g.links) (fits te.links lsps.paths g t.constraints.priorities.setup) (keeps_other_bounds te.links t.constraints g.links) (nat_lt t.tries 4) (accepted lsps t v) h

-- ---- what fits leaves room

all_at : (test : ℕ → Bool) (xs : List ℕ) (l : ℕ) → list_all test xs ≡ true → list_any (λ k. k == l) xs ≡ true → test l ≡ true
all_at test [] l all has = cc
all_at test (x ∷ xs) l all has =
    let parts = and_parts (test x) (list_all test xs) all in
    elim (cases_Bool (x == l)) [
      | inl here ↦ (let e : x ≡ l = grind (arith, nat_tests, here) in subst (λ (k : ℕ). test k ≡ true) e parts.0)
      | inr other ↦ all_at test xs l parts.1 (rw other at has)
    ]

range_at : (test : ℕ → Bool) (low n p : ℕ) → list_all test (range_with_len low n) ≡ true → low ≤ p → p < low + n → test p ≡ true
range_at test low zero p all from to = absurd (omega arith)
range_at test low (suc n) p all from to =
    let parts = and_parts (test low) (list_all test (range_with_len (low + 1) n)) all in
    elim (cases_Bool (low == p)) [
      | inl here ↦ (let e : low ≡ p = grind (arith, nat_tests, here) in subst (λ (k : ℕ). test k ≡ true) e parts.0)
      | inr other ↦ (let less : low < p = grind (arith, nat_tests, other) in range_at test (low + 1) n p parts.1 (omega arith) (omega arith))
    ]

rises_no_more : (rise left : Bool) → (not rise || left) ≡ true → rise ≡ true → left ≡ true
rises_no_more true left h e = h
rises_no_more false left h e = absurd (true≢false (sym e))

-- below its holding priority a path reserves nothing
not_below : (paths : List Path) (g : Path) (l p : ℕ) → p < g.hold → rises paths g l p ≡ true → ⊥
not_below paths g l p less rise =
    let low : nat_le g.hold p ≡ false = grind (arith, nat_tests) in
    let w = share_with paths g g.tunnel l p in
    let same : share (paths ++ g ∷ []) g.tunnel l p ≡ max (share paths g.tunnel l p) 0 = w ∙ ap (λ (n : ℕ). max (share paths g.tunnel l p) n) (no_more (tunnel_eq g.tunnel g.tunnel) (nat_le g.hold p) (has_link l g) g.bandwidth low) in
    let e : share (paths ++ g ∷ []) g.tunnel l p ≡ share paths g.tunnel l p = omega (arith, same) in
    let none : nat_lt (share paths g.tunnel l p) (share (paths ++ g ∷ []) g.tunnel l p) ≡ false = grind (arith, nat_tests, e) in
    true≢false (sym rise ∙ none)
  where
    no_more : (own low has : Bool) (n : ℕ) → low ≡ false → (if own && low && has then n else 0) ≡ 0
    no_more true true has n e = absurd (true≢false e)
    no_more false true has n e = absurd (true≢false e)
    no_more true false has n e = refl
    no_more false false has n e = refl

not_negative : (z : ℤ) → int_le (pos 0) z ≡ true → pos 0 ≤ℤ z
not_negative z h = record { le = subst T (sym h) tt }

pub fits_leaves_room : (links : List Link) (paths : List Path) (g : Path) (setup : ℕ) → fits links paths g setup ≡ true → LeavesRoom links paths g setup
unfolding fits
fits_leaves_room links paths g setup h l p has up rise =
    let test : ℕ → Bool = λ n. nat_lt n (length links) && list_all (fits_at links paths g n) (priorities g.hold setup) in
    let there = and_parts (nat_lt l (length links)) (list_all (fits_at links paths g l) (priorities g.hold setup)) (all_at test g.links l h has) in
    elim (cases_Bool (nat_le g.hold p)) [
      | inl held ↦ (
          let from : g.hold ≤ p = grind (arith, nat_tests, held) in
          let to : p < g.hold + (setup + 1 - g.hold) = omega arith in
          not_negative _ (rises_no_more (rises paths g l p) (int_le (pos 0) (unreserved links (paths ++ g ∷ []) l p)) (range_at (fits_at links paths g l) g.hold (setup + 1 - g.hold) p there.1 from to) rise))
      | inr better ↦ (let less : p < g.hold = grind (arith, nat_tests, better) in absurd (not_below paths g l p less rise))
    ]

-- a grant leaves no link below zero that it charges anew, at its setup priority or better
pub no_grant_goes_below : (t : Ticket) (g : Path) (lsps : Lsps) (te : Ted) (v : PeerView) → verdict t (Some g) lsps te v ≡ Grant → LeavesRoom te.links lsps.paths g t.constraints.priorities.setup
no_grant_goes_below t g lsps te v h = fits_leaves_room te.links lsps.paths g t.constraints.priorities.setup (granted_fits t g lsps te v h)

-- ---- what is answered is a path

not_tried_either : (low : Bool) → (if low then Again else GivenUp) ≡ Answer → ⊥
not_tried_either true h = cc
not_tried_either false h = cc

accepted_of : (gone accepted low : Bool) (outcome : Verdict) → (if gone then Gone else (if accepted then outcome else (if low then Again else GivenUp))) ≡ Answer → accepted ≡ true
accepted_of true accepted low outcome h = cc
accepted_of false true low outcome h = refl
accepted_of false false low outcome h = absurd (not_tried_either low h)

route_is_short : (te : Ted) (c : Constraints) (path : List ℕ) → is_route te c path ≡ true → length path ≤ 64
unfolding is_route
route_is_short te c path h =
    let few : nat_le (length path) 64 ≡ true = (and_parts (nat_le (length path) 64) _ (and_parts (nat_lt 0 (length path)) _ h).1).0 in
    grind (arith, nat_tests, few)

-- the answer to a request has at most 64 links
pub answer_is_short : (t : Ticket) (g : Path) (lsps : Lsps) (te : Ted) (v : PeerView) → verdict t (Some g) lsps te v ≡ Answer → length g.links ≤ 64
unfolding verdict
answer_is_short t g lsps te v h =
    let acceptable = accepted_of (is_gone lsps t v) (is_acceptable te lsps.paths t.constraints g) (nat_lt t.tries 4) (accepted lsps t v) h in
    let admissible = and_parts (is_admissible te lsps.paths t.constraints g) (keeps_other_bounds te.links t.constraints g.links) acceptable in
    route_is_short te t.constraints g.links (and_parts (is_route te t.constraints g.links) (fits te.links lsps.paths g t.constraints.priorities.setup) admissible.0).0
