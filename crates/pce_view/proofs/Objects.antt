-- How an object ends, and links beside numbers that are fewer.
use Rattle.std.proofs.Common.{◌≡◌, ◌∙◌, ℕ, ◌≤◌, ℤ, min, List, [], ◌∷◌, ◌++◌, length, drop, ap, refl, append_assoc, arith, inl, inr}
use Rattle.std.proofs.lemmas.Bool.{cases_lt}
use Rattle.std.proofs.lemmas.List.{drop_all}
use Rattle.json.specs.Json.{Json, member, no_items, no_members}
use Rattle.json.specs.Token.{Token, end_object}
use Rattle.json.specs.Tree.{json_tokens, members_tokens}
use Rattle.te_base.specs.declared.network.Link.{Link}
use Rattle.te_base.specs.declared.network.Node.{Node}
use Rattle.pce_view.specs.Links.{links_json}

-- the last value and the end of an object make it whole
pub ends_object : (t1 t2 t3 whole : List Token) (last : Json) → t1 ++ (json_tokens last ++ end_object ∷ []) ≡ whole → t2 ≡ t1 ++ json_tokens last → t3 ≡ t2 ++ end_object ∷ [] → t3 ≡ whole
ends_object t1 t2 t3 whole last is value end = end ∙ ap (λ t. t ++ end_object ∷ []) value ∙ append_assoc t1 (json_tokens last) (end_object ∷ []) ∙ is

-- two members and the end of an object
pub ends_with_two : (t0 t1 t2 t3 t4 t5 : List Token) (k m : List ℕ) (a b : Json) → t1 ≡ t0 ++ Token.key k ∷ [] → t2 ≡ t1 ++ json_tokens a → t3 ≡ t2 ++ Token.key m ∷ [] → t4 ≡ t3 ++ json_tokens b → t5 ≡ t4 ++ end_object ∷ [] → t5 ≡ t0 ++ members_tokens (member k a (member m b no_members))
ends_with_two t0 t1 t2 t3 t4 t5 k m a b one first two second end =
    let A = json_tokens a in
    let B = json_tokens b in
    let K : List Token = Token.key k ∷ [] in
    let M : List Token = Token.key m ∷ [] in
    let E : List Token = end_object ∷ [] in
    end ∙ ap (λ (t : List Token). t ++ E) (second ∙ ap (λ (t : List Token). t ++ B) (two ∙ ap (λ (t : List Token). t ++ M) (first ∙ ap (λ (t : List Token). t ++ A) one)))
    ∙ append_assoc (((t0 ++ K) ++ A) ++ M) B E
    ∙ append_assoc ((t0 ++ K) ++ A) M (B ++ E)
    ∙ append_assoc (t0 ++ K) A (M ++ (B ++ E))
    ∙ append_assoc t0 K (A ++ (M ++ (B ++ E)))

no_numbers : (nodes : List Node) (n : ℕ) (links : List Link) → links_json nodes n links [] ≡ no_items
no_numbers nodes n [] = refl
no_numbers nodes n (link ∷ links) = refl

-- past the links, or past the numbers, nothing is left to write
pub links_done : (nodes : List Node) (n : ℕ) (links : List Link) (lefts : List (List ℤ)) → min (length links) (length lefts) ≤ n → links_json nodes n (drop n links) (drop n lefts) ≡ no_items
links_done nodes n links lefts done =
    elim (cases_lt n (length links)) [
      | inl less ↦ rw (drop_all n lefts (omega arith)) (no_numbers nodes n (drop n links))
      | inr most ↦ rw (drop_all n links most) refl
    ]
