-- The text of a base is that of its items, one after the other.
use Rattle.std.proofs.Common.{◌≡◌, ◌∙◌, ◌<◌, ◌+◌, ℕ, Bool, true, List, [], ◌∷◌, ◌++◌, add-one, append_assoc, codes, drop, drop-cons, get_or, length, refl, sym, ap}
use Rattle.std.specs.List.{list_all}
use Rattle.step_core.specs.declared.peer.Peer.{Peer}
use Rattle.base_lines.specs.Items.{peer_items, peers_items}
use Rattle.base_lines.specs.Lines.{peer_has_lines, text_of_items}
use Rattle.base_lines.specs.Words.{line_of}
use Rattle.base_lines.specs.declared.item.Item.{Item}
use Rattle.base_lines.specs.declared.item.Item.TheVariants as item

joined : (xs ys : List Item) → text_of_items (xs ++ ys) ≡ text_of_items xs ++ text_of_items ys
joined [] ys = refl
joined (x ∷ xs) ys = ap (λ (rest : List ℕ). line_of x ++ 10 ∷ rest) (joined xs ys) ∙ sym (append_assoc (line_of x) (10 ∷ text_of_items xs) (text_of_items ys))

-- ---- after the lines of one more peer

next_peer : (ps : List Peer) (i : ℕ) (p : Peer) → i < length ps → p ≡ get_or ps i p → drop i ps ≡ p ∷ drop (i + 1) ps
next_peer ps i p less is =
    let cons = drop-cons ps i p less in
    let next = add-one i in
    cc

pub one_more : (ps : List Peer) (i : ℕ) (p : Peer) (before text whole : List ℕ) → i < length ps → p ≡ get_or ps i p → text ≡ before ++ text_of_items (peer_items p)
    → before ++ text_of_items (peers_items (drop i ps)) ≡ whole → text ++ text_of_items (peers_items (drop (i + 1) ps)) ≡ whole
one_more ps i p before text whole less is added rest =
    let left = peers_items (drop (i + 1) ps) in
    ap (λ (t : List ℕ). t ++ text_of_items left) added
    ∙ append_assoc before (text_of_items (peer_items p)) (text_of_items left)
    ∙ ap (λ (t : List ℕ). before ++ t) (sym (joined (peer_items p) left))
    ∙ ap (λ (peers : List Peer). before ++ text_of_items (peers_items peers)) (sym (next_peer ps i p less is))
    ∙ rest

pub one_more_has : (ps : List Peer) (i : ℕ) (p : Peer) (whole : Bool) → i < length ps → p ≡ get_or ps i p → peer_has_lines p ≡ true
    → list_all peer_has_lines (drop i ps) ≡ whole → list_all peer_has_lines (drop (i + 1) ps) ≡ whole
one_more_has ps i p whole less is has rest =
    let left = drop (i + 1) ps in
    let all : list_all peer_has_lines (p ∷ left) ≡ list_all peer_has_lines left = rw has refl in
    sym all ∙ ap (list_all peer_has_lines) (sym (next_peer ps i p less is)) ∙ rest

-- ---- the whole text

pub whole : (first : List ℕ) (vs ps xs rs ns ts : List Item)
    → (((((((first ++ 10 ∷ []) ++ text_of_items vs) ++ text_of_items ps) ++ text_of_items xs) ++ text_of_items rs) ++ text_of_items ns) ++ text_of_items ts) ++ codes "end\n"
    ≡ first ++ 10 ∷ text_of_items (vs ++ (ps ++ (xs ++ (rs ++ (ns ++ (ts ++ item.End ∷ []))))))
unfolding line_of
whole first vs ps xs rs ns ts =
    let last = item.End ∷ [] in
    let n = ns ++ (ts ++ last) in
    let r = rs ++ n in
    let x = xs ++ r in
    let parts : text_of_items (vs ++ (ps ++ x)) ≡ text_of_items vs ++ (text_of_items ps ++ (text_of_items xs ++ (text_of_items rs ++ (text_of_items ns ++ (text_of_items ts ++ codes "end\n"))))) =
    joined vs (ps ++ x)
    ∙ ap (λ (t : List ℕ). text_of_items vs ++ t) (joined ps x
    ∙ ap (λ (t : List ℕ). text_of_items ps ++ t) (joined xs r
    ∙ ap (λ (t : List ℕ). text_of_items xs ++ t) (joined rs n
    ∙ ap (λ (t : List ℕ). text_of_items rs ++ t) (joined ns (ts ++ last)
    ∙ ap (λ (t : List ℕ). text_of_items ns ++ t) (joined ts last)))))
    in
    let spread : (((((((first ++ 10 ∷ []) ++ text_of_items vs) ++ text_of_items ps) ++ text_of_items xs) ++ text_of_items rs) ++ text_of_items ns) ++ text_of_items ts) ++ codes "end\n"
    ≡ first ++ 10 ∷ (text_of_items vs ++ (text_of_items ps ++ (text_of_items xs ++ (text_of_items rs ++ (text_of_items ns ++ (text_of_items ts ++ codes "end\n")))))) = simp append_assoc in
    spread ∙ ap (λ (t : List ℕ). first ++ 10 ∷ t) (sym parts)
