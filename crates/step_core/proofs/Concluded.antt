-- What a verdict says about its ticket's peer, about the offer and about the paths.
use Rattle.std.proofs.Common.{◌≡◌, ◌∙◌, ◌==◌, ◌&&◌, ◌||◌, ℕ, ◌<◌, ◌≤◌, Bool, true, false, not, nat_lt, nat_le, length, List, [], refl, sym, subst, ap, arith}
use Rattle.std.specs.Prelude.{Option, Some, None, IfSome, option_map, unwrap_or, is_some, find, if◌then◌else◌}
use Rattle.std.proofs.lemmas.Bool.{and_parts}
use Rattle.std.proofs.lemmas.Bool.Decides.{nat_tests}
use Rattle.te_base.specs.Ted.{Ted}
use Rattle.te_snapshot.specs.Admissible.{keeps_other_bounds}
use Rattle.lsp_base.specs.Lsps.{Lsps}
use Rattle.lsp_base.specs.Shares.{fits}
use Rattle.lsp_base.specs.declared.lsp.Constraints.{Constraints}
use Rattle.lsp_base.specs.declared.path.Path.{Path}
use Rattle.commit_core.proofs.Soundness.{answer_is_short}
use Rattle.commit_core.specs.Offers.{is_request, offered_path}
use Rattle.commit_core.specs.Routes.{is_acceptable, is_admissible, is_route}
use Rattle.commit_core.specs.Verdicts.{accepted, cannot_be_granted, is_gone, is_moot, judged, verdict}
use Rattle.commit_core.specs.declared.ticket.Ticket.{Ticket}
use Rattle.commit_core.specs.declared.verdict.PeerView.{PeerView}
use Rattle.commit_core.specs.declared.verdict.Verdict.{Verdict}
use Rattle.commit_core.specs.declared.verdict.Verdict.TheVariants.{Grant, Answer, Again, NoPath, GivenUp, Gone}
use Rattle.step_core.specs.Grants.{path_of, verdict_on, view_of}
use Rattle.step_core.specs.States.{State, is_known, is_peer, unknown_peer}
use Rattle.step_core.specs.declared.peer.Peer.{Peer}

-- ---- the peer is up, and so it is known

gone_by : (gone : Bool) (rest w : Verdict) → (if gone then Gone else rest) ≡ w → (w ≡ Gone → ⊥) → gone ≡ false
gone_by true rest w is other = absurd (other (sym is))
gone_by false rest w is other = refl

not_gone : (t : Ticket) (offer : Option Path) (lsps : Lsps) (te : Ted) (v : PeerView) (w : Verdict) → verdict t offer lsps te v ≡ w → (w ≡ Gone → ⊥) → is_gone lsps t v ≡ false
unfolding verdict
not_gone t offer lsps te v w is other = gone_by (is_gone lsps t v) (judged t offer lsps te v) w is other

up_by : (up same rest : Bool) → (not (up && same) || rest) ≡ false → up ≡ true
up_by true same rest is = refl
up_by false same rest is = absurd (cc (is))

known_by : (n : ℕ) (o : Option Peer) → (unwrap_or o (unknown_peer n)).up ≡ true → is_some o ≡ true
known_by n None is = absurd (cc (is))
known_by n (Some p) is = refl

pub peer_is_known : (s : State) (t : Ticket) (offer : Option (List ℕ)) (w : Verdict) → verdict_on s t offer ≡ w → (w ≡ Gone → ⊥) → is_known s.peers t.peer ≡ true
peer_is_known s t offer w is other =
    let v = view_of s t.peer in
    let here = not_gone t (option_map (path_of s t) offer) s.base s.te v w is other in
    known_by t.peer (find (is_peer t.peer) s.peers) (up_by v.up (v.session == t.session) (not (is_request t.purpose) && v.syncing || is_moot s.base t.peer t.purpose) here)

-- ---- what is granted

granted_by : (gone acceptable low : Bool) (outcome : Verdict) → (if gone then Gone else (if acceptable then outcome else (if low then Again else GivenUp))) ≡ Grant → (acceptable ≡ true) × (outcome ≡ Grant)
granted_by true acceptable low outcome is = absurd (cc (is))
granted_by false true low outcome is = (refl, is)
granted_by false false true outcome is = absurd (cc (is))
granted_by false false false outcome is = absurd (cc (is))

grant_of : (t : Ticket) (g : Path) (lsps : Lsps) (te : Ted) (v : PeerView) → verdict t (Some g) lsps te v ≡ Grant → (is_acceptable te lsps.paths t.constraints g ≡ true) × (accepted lsps t v ≡ Grant)
unfolding verdict
grant_of t g lsps te v is = granted_by (is_gone lsps t v) (is_acceptable te lsps.paths t.constraints g) (nat_lt t.tries 4) (accepted lsps t v) is

few_by : (request many used : Bool) → (if request then Answer else (if many || used then GivenUp else Grant)) ≡ Grant → many ≡ false
few_by true many used is = absurd (cc (is))
few_by false true used is = absurd (cc (is))
few_by false false used is = refl

few_paths : (n : ℕ) → nat_le 16384 n ≡ false → n < 16384
few_paths n is = grind (arith, nat_tests, is)

route_is_short : (te : Ted) (c : Constraints) (path : List ℕ) → is_route te c path ≡ true → length path ≤ 64
unfolding is_route
route_is_short te c path h =
    let few : nat_le (length path) 64 ≡ true = (and_parts (nat_le (length path) 64) _ (and_parts (nat_lt 0 (length path)) _ h).1).0 in
    grind (arith, nat_tests, few)

acceptable_is_short : (te : Ted) (paths : List Path) (c : Constraints) (g : Path) → is_acceptable te paths c g ≡ true → length g.links ≤ 64
acceptable_is_short te paths c g h =
    let admissible = and_parts (is_admissible te paths c g) (keeps_other_bounds te.links c g.links) h in
    route_is_short te c g.links (and_parts (is_route te c g.links) (fits te.links paths g c.priorities.setup) admissible.0).0

-- ---- the offer's path

path_by : (s : State) (t : Ticket) (links : List ℕ) (p : Path) → p ≡ path_of s t links → (p.links ≡ links) × (p ≡ path_of s t p.links)
unfolding offered_path
path_by s t links p is = let same : p.links ≡ links = ap (λ (x : Path). x.links) is in (same, is ∙ ap (λ (ls : List ℕ). path_of s t ls) (sym same))

-- the path is the one over the offered links
pub path_is : (s : State) (t : Ticket) (offer : Option (List ℕ)) (path : Option Path) (p : Path) → path ≡ option_map (path_of s t) offer → path ≡ Some p → (p.links ≡ unwrap_or offer []) × (p ≡ path_of s t p.links)
path_is s t None path p is some = absurd (cc (is, some))
path_is s t (Some links) path p is some = let same : p ≡ path_of s t links = cc in path_by s t links p same

offer_is : (s : State) (t : Ticket) (offer : Option (List ℕ)) (path : Option Path) (p : Path) (w : Verdict) → path ≡ option_map (path_of s t) offer → path ≡ Some p → verdict_on s t offer ≡ w → verdict t (Some p) s.base s.te (view_of s t.peer) ≡ w
offer_is s t offer path p w is some verdict_is = ap (λ (o : Option Path). verdict t o s.base s.te (view_of s t.peer)) (sym some ∙ is) ∙ verdict_is

pub grant_is_possible : (s : State) (t : Ticket) (offer : Option (List ℕ)) (path : Option Path) (p : Path) → path ≡ option_map (path_of s t) offer → path ≡ Some p → verdict_on s t offer ≡ Grant → (length s.base.paths < 16384) × (length p.links ≤ 64)
grant_is_possible s t offer path p is some verdict_is =
    let v = view_of s t.peer in
    let g = grant_of t p s.base s.te v (offer_is s t offer path p Grant is some verdict_is) in
    (few_paths (length s.base.paths) (few_by (is_request t.purpose) (nat_le 16384 (length s.base.paths)) v.srp_in_use g.1), acceptable_is_short s.te s.base.paths t.constraints p g.0)

pub answer_is_possible : (s : State) (t : Ticket) (offer : Option (List ℕ)) (path : Option Path) (p : Path) → path ≡ option_map (path_of s t) offer → path ≡ Some p → verdict_on s t offer ≡ Answer → length p.links ≤ 64
answer_is_possible s t offer path p is some verdict_is = answer_is_short t p s.base s.te (view_of s t.peer) (offer_is s t offer path p Answer is some verdict_is)

-- ---- without an offer nothing is granted, and nothing answered

no_grant_by : (gone same low : Bool) → (if gone then Gone else (if same then NoPath else (if low then Again else NoPath))) ≡ Grant → ⊥
no_grant_by true same low is = cc
no_grant_by false true low is = cc
no_grant_by false false true is = cc
no_grant_by false false false is = cc

no_answer_by : (gone same low : Bool) → (if gone then Gone else (if same then NoPath else (if low then Again else NoPath))) ≡ Answer → ⊥
no_answer_by true same low is = cc
no_answer_by false true low is = cc
no_answer_by false false true is = cc
no_answer_by false false false is = cc

no_grant : (t : Ticket) (lsps : Lsps) (te : Ted) (v : PeerView) → verdict t None lsps te v ≡ Grant → ⊥
unfolding verdict
no_grant t lsps te v is = no_grant_by (is_gone lsps t v) (v.changes == t.seen) (nat_lt t.tries 4) is

no_answer : (t : Ticket) (lsps : Lsps) (te : Ted) (v : PeerView) → verdict t None lsps te v ≡ Answer → ⊥
unfolding verdict
no_answer t lsps te v is = no_answer_by (is_gone lsps t v) (v.changes == t.seen) (nat_lt t.tries 4) is

pub grant_has_path : (s : State) (t : Ticket) (offer : Option (List ℕ)) (path : Option Path) → path ≡ option_map (path_of s t) offer → path ≡ None → verdict_on s t offer ≡ Grant → ⊥
grant_has_path s t None path is none verdict_is = no_grant t s.base s.te (view_of s t.peer) verdict_is
grant_has_path s t (Some links) path is none verdict_is = absurd (cc (is, none))

pub answer_has_path : (s : State) (t : Ticket) (offer : Option (List ℕ)) (path : Option Path) → path ≡ option_map (path_of s t) offer → path ≡ None → verdict_on s t offer ≡ Answer → ⊥
answer_has_path s t None path is none verdict_is = no_answer t s.base s.te (view_of s t.peer) verdict_is
answer_has_path s t (Some links) path is none verdict_is = absurd (cc (is, none))

-- ---- a ticket that waits again may be tried again

again_by : (request cannot : Bool) → (if request then Answer else (if cannot then GivenUp else Grant)) ≡ Again → ⊥
again_by true cannot is = cc
again_by false true is = cc
again_by false false is = cc

tried_by : (low : Bool) (other : Verdict) → (other ≡ Again → ⊥) → (if low then Again else other) ≡ Again → low ≡ true
tried_by true other never is = refl
tried_by false other never is = absurd (never is)

again_offer : (gone acceptable low request cannot : Bool) → (if gone then Gone else (if acceptable then (if request then Answer else (if cannot then GivenUp else Grant)) else (if low then Again else GivenUp))) ≡ Again → low ≡ true
again_offer true acceptable low request cannot is = absurd (cc (is))
again_offer false true low request cannot is = absurd (again_by request cannot is)
again_offer false false low request cannot is = tried_by low GivenUp (λ no. cc) is

again_nothing : (gone same low : Bool) → (if gone then Gone else (if same then NoPath else (if low then Again else NoPath))) ≡ Again → low ≡ true
again_nothing true same low is = absurd (cc (is))
again_nothing false true low is = absurd (cc (is))
again_nothing false false low is = tried_by low NoPath (λ no. cc) is

again_is_low : (t : Ticket) (offer : Option Path) (lsps : Lsps) (te : Ted) (v : PeerView) → verdict t offer lsps te v ≡ Again → nat_lt t.tries 4 ≡ true
unfolding verdict
again_is_low t None lsps te v is = again_nothing (is_gone lsps t v) (v.changes == t.seen) (nat_lt t.tries 4) is
again_is_low t (Some g) lsps te v is = again_offer (is_gone lsps t v) (is_acceptable te lsps.paths t.constraints g) (nat_lt t.tries 4) (is_request t.purpose) (cannot_be_granted lsps v) is

few_tries : (n : ℕ) → nat_lt n 4 ≡ true → n < 4
few_tries n is = grind (arith, nat_tests, is)

pub again_has_tries : (s : State) (t : Ticket) (offer : Option (List ℕ)) → verdict_on s t offer ≡ Again → t.tries < 4
again_has_tries s t offer is = few_tries t.tries (again_is_low t (option_map (path_of s t) offer) s.base s.te (view_of s t.peer) is)

pub found_has_tries : (o : Option Ticket) (t : Ticket) → o ≡ Some t → t.tries < 4 → IfSome o (λ u. u.tries < 4)
found_has_tries o t is few = subst (λ (x : Option Ticket). IfSome x (λ u. u.tries < 4)) (sym is) few
