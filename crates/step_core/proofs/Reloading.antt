-- What is known over a network with other values of its links, and what is unreserved after a reload of one link.
use Rattle.std.proofs.Common.{◌≡◌, ◌∙◌, ◌<◌, ◌&&◌, ℕ, zero, suc, Bool, true, List, [], ◌∷◌, length, map, sym, ap, refl, subst, arith}
use Rattle.std.proofs.Math.IntN.{+ℤ_assoc, +ℤ_comm, -ℤ-+ℤ_cancel}
use Rattle.std.proofs.lemmas.Bool.Decides.{nat_tests}
use Rattle.std.specs.Prelude.{ℤ, nat_lt, ◌≢◌, pos, neg_ℤ, ◌+ℤ◌, ◌-ℤ◌, Option, option_map, unwrap_or}
use Rattle.te_base.specs.declared.network.Link.{Link}
use Rattle.te_base.specs.Ted.{Ted}
use Rattle.te_base.specs.Values.{Ends, Values, IsSameNetwork, ends_in, set_all_values, set_values, with_all_values, with_values}
use Rattle.te_base.proofs.Values.{own_values, set-other}
use Rattle.lsp_base.specs.Refusals.{unless}
use Rattle.lsp_base.specs.Shares.{reservable, reserved, unreserved}
use Rattle.lsp_base.specs.declared.path.Path.{Path}
use Rattle.lsp_base.specs.declared.why.Why.TheVariants.{UnknownLink}
use Rattle.step_core.specs.Bases.{known_in, state_over}
use Rattle.step_core.specs.Laws.{MovesAlone}
use Rattle.step_core.specs.Outcomes.{decided, done}
use Rattle.step_core.specs.Reloads.{after_reload}
use Rattle.step_core.specs.Steps.{step}
use Rattle.step_core.specs.States.{State}
use Rattle.step_core.specs.declared.base.Base as known
use Rattle.step_core.specs.declared.event.Event.TheVariants.{Reload}
use Rattle.link_reload.specs.declared.entry.LinkReload.{LinkReload}

-- ---- what is known over a network, and over the same with other values

-- a link is its ends and its values
abbrev joined : Ends → Values → Link
joined e v = record { from = e.from; to = e.to; local = e.local; remote = e.remote; igp = v.igp; te = v.te; colour = v.colour; reservable = v.reservable }

-- links with the same ends and addresses are the same if they have the same values
same_links : (ls ks : List Link) (vs : List Values) → map ends_in ls ≡ map ends_in ks → length vs ≡ length ls → set_all_values ls vs ≡ set_all_values ks vs
same_links [] [] vs same long = refl
same_links [] (k ∷ ks) vs same long = absurd cc
same_links (l ∷ ls) [] vs same long = absurd cc
same_links (l ∷ ls) (k ∷ ks) [] same long = absurd (omega arith)
same_links (l ∷ ls) (k ∷ ks) (v ∷ vs) same long =
    let ends : ends_in l ≡ ends_in k = cc in
    let first : with_values l v ≡ with_values k v = ap (λ (e : Ends). joined e v) ends in
    let rest : map ends_in ls ≡ map ends_in ks = cc in
    ap (λ x. x ∷ set_all_values ls vs) first ∙ ap (λ xs. with_values k v ∷ xs) (same_links ls ks vs rest (omega (arith, long)))

-- if two networks are the same apart from the values of their links, and get the same values, they are the same
pub same_over : (a b : Ted) (vs : List Values) → IsSameNetwork a b → length vs ≡ length a.links → with_all_values a vs ≡ with_all_values b vs
same_over a b vs same long = rw (same.nodes, same.owners, same_links a.links b.links vs same.ends long) refl

pub state_over-same : (a b : Ted) (base : known.Base) → IsSameNetwork a b → length base.values ≡ length a.links → state_over a base ≡ state_over b base
state_over-same a b base same long = ap (λ (te : Ted). record (state_over a base) { te = te }) (same_over a b base.values same long)

-- a state is made again from what is known of it
pub known_again : (s : State) (base : known.Base) → base ≡ known_in s → state_over s.te base ≡ s
known_again s base is = ap (state_over s.te) is ∙ ap (λ (te : Ted). record s { te = te }) (own_values s.te)

-- ---- what is unreserved after a reload of one link

reservable-set : (links : List Link) (n : ℕ) (v : Values) → n < length links → reservable (set_values links n v) n ≡ v.reservable
reservable-set [] n v less = absurd (omega (arith, less))
reservable-set (l ∷ ls) zero v less = refl
reservable-set (l ∷ ls) (suc n) v less = reservable-set ls n v (omega (arith, less))

reservable-other : (links : List Link) (n m : ℕ) (v : Values) → n ≢ m → reservable (set_values links n v) m ≡ reservable links m
reservable-other links n m v apart = ap (λ (o : Option Link). unwrap_or (option_map (λ (k : Link). k.reservable) o) 0) (set-other links n m v apart)

moved : (a b r : ℤ) → b -ℤ r ≡ (a -ℤ r) +ℤ (b -ℤ a)
moved a b r = ap (λ (x : ℤ). x -ℤ r) (sym (-ℤ-+ℤ_cancel b a)) ∙ +ℤ_assoc (b -ℤ a) a (neg_ℤ r) ∙ +ℤ_comm (b -ℤ a) (a -ℤ r)

left-set : (links : List Link) (paths : List Path) (n p : ℕ) (v : Values) → n < length links
    → unreserved (set_values links n v) paths n p ≡ unreserved links paths n p +ℤ (pos v.reservable -ℤ pos (reservable links n))
unfolding unreserved
left-set links paths n p v less = ap (λ (b : ℕ). pos b -ℤ pos (reserved paths n p)) (reservable-set links n v less) ∙ moved (pos (reservable links n)) (pos v.reservable) (pos (reserved paths n p))

left-other : (links : List Link) (paths : List Path) (n l p : ℕ) (v : Values) → n ≢ l → unreserved (set_values links n v) paths l p ≡ unreserved links paths l p
unfolding unreserved
left-other links paths n l p v apart = ap (λ (b : ℕ). pos b -ℤ pos (reserved paths l p)) (reservable-other links n l v apart)

step_is : (s : State) (e : LinkReload) → e.link < length s.te.links → (step s (Reload (e ∷ []))).state ≡ after_reload s (e ∷ [])
unfolding step
step_is s e less =
    let there : nat_lt e.link (length s.te.links) ≡ true = grind (arith, nat_tests) in
    ap (λ (b : Bool). (decided s (unless (b && true) UnknownLink) (done (after_reload s (e ∷ [])))).state) there

pub moves_alone : (s : State) (e : LinkReload) → e.link < length s.te.links → MovesAlone e s (step s (Reload (e ∷ []))).state
moves_alone s e less = subst (MovesAlone e s) (sym (step_is s e less)) (record {
  there = λ p. left-set s.te.links s.base.paths e.link p e.values less;
  elsewhere = λ l p apart. left-other s.te.links s.base.paths e.link l p e.values (λ same. apart (sym same));
})
