-- An address has the owner that nodes and links give it.
use Rattle.std.proofs.Common.{◌≡◌, ℕ, suc, ◌+◌, ◌==◌, ◌&&◌, ◌||◌, Bool, true, false, List, [], ◌∷◌, ◌++◌, length, Option, Some, None, Ok, IfOk, IsTrue, ◌↔◌, option_map, find, refl, sym, ap, subst, ◌∙◌, arith, zero-add, add-zero, if◌then◌else◌}
use Rattle.std.proofs.lemmas.List.Folds.{list_any-append}
use Rattle.std.proofs.lemmas.Result.{IfOk-at_ok}
use Rattle.std.specs.List.{list_any, enumerate_from}
use Rattle.std.specs.Option.{option_or}
use Rattle.toml.specs.Data.{Members}
use Rattle.te_base.specs.declared.fault.FaultPlace.{FaultPlace}
use Rattle.te_base.specs.declared.fault.TeFault.TheVariants.{AddressTwice}
use Rattle.te_base.specs.declared.keys.Key.{Key}
use Rattle.te_base.specs.declared.keys.Key.TheVariants.{Id, Local, Remote}
use Rattle.te_base.specs.declared.keys.TableKind.TheVariants.{Nodes, Links}
use Rattle.te_base.specs.declared.network.Node.{Node}
use Rattle.te_base.specs.declared.network.Link.{Link}
use Rattle.te_base.specs.declared.network.Owner.{Owner}
use Rattle.te_base.specs.Places.{fault_with}
use Rattle.te_base.specs.Ted.{Ted, empty_ted}
use Rattle.te_base.specs.Owners.{owner_of, with_owner, owned, is_id_of, is_local_of, is_remote_of, owns, is_node, AreOwners}
use Rattle.te_base.specs.Fields.{node_text, link_text, tables_at}
use Rattle.te_base.specs.Ranges.{node_value, link_addresses, link_values}
use Rattle.te_base.specs.LinkText.{node_named, next_node, next_link, unnamed, with_node, ends_of, link_of, with_link, with_nodes, with_links, few_enough, base_of_tree}
use Rattle.te_base.proofs.Found.{same_number, equal_numbers}
use Rattle.te_base.proofs.Steps.{bind, after, when}

-- ---- tests

twice : (b : Bool) → b ≡ (b || (b && true))
twice true = refl
twice false = refl

absorbed : (b c : Bool) → b ≡ (b || (c && false))
absorbed true c = refl
absorbed false true = refl
absorbed false false = refl

alone : (b : Bool) → b ≡ (false || (b && true))
alone true = refl
alone false = refl

first_more : (a b c d : Bool) → (((a || b) || c) || d) ≡ (((a || (d || false)) || b) || c)
first_more true b c d = refl
first_more false true c true = refl
first_more false true c false = refl
first_more false false true true = refl
first_more false false true false = refl
first_more false false false true = refl
first_more false false false false = refl

others_more : (a b c d e : Bool) → ((((a || b) || c) || d) || e) ≡ ((a || (b || (d || false))) || (c || (e || false)))
others_more true b c d e = refl
others_more false true c d e = refl
others_more false false true true e = refl
others_more false false true false e = refl
others_more false false false true e = refl
others_more false false false false true = refl
others_more false false false false false = refl

-- ---- one more owner

one_more : (address node x : ℕ) → Option ℕ
one_more address node x = if address == x then Some node else None

owner_of-append : (owners : List Owner) (address node x : ℕ) → owner_of (owners ++ record { address = address; node = node } ∷ []) x ≡ option_or (owner_of owners x) (one_more address node x)
unfolding one_more
owner_of-append [] address node x =
    elim (address == x) as (λ b. option_map (λ (o : Owner). o.node) (if b then Some (record { address = address; node = node }) else None) ≡ (if b then Some node else None))
    [ true ↦ refl | false ↦ refl ]
owner_of-append (o ∷ os) address node x =
    elim (o.address == x) as (λ b. option_map (λ (o : Owner). o.node) (if b then Some o else find (λ (o : Owner). o.address == x) (os ++ record { address = address; node = node } ∷ []))
    ≡ option_or (option_map (λ (o : Owner). o.node) (if b then Some o else find (λ (o : Owner). o.address == x) os)) (one_more address node x))
    [ true ↦ refl | false ↦ owner_of-append os address node x ]

-- what a list of owners says is what another one says, and that a node owns an address
AddsOwner : List Owner → ℕ → ℕ → List Owner → Type 0
AddsOwner owners address node more = (x m : ℕ) → is_node (owner_of more x) m ≡ (is_node (owner_of owners x) m || (node == m && address == x))

new_cases : (owners : List Owner) (address node x m : ℕ) (o : Option ℕ) (t : Bool) → owner_of owners address ≡ None → owner_of owners x ≡ o → (address == x) ≡ t
    → is_node (option_or o (if t then Some node else None)) m ≡ (is_node o m || (node == m && t))
new_cases owners address node x m None true none e h = alone (node == m)
new_cases owners address node x m None false none e h = absorbed false (node == m)
new_cases owners address node x m (Some k) false none e h = absorbed (k == m) (node == m)
new_cases owners address node x m (Some k) true none e h =
    let same : address ≡ x = same_number address x h in
    let found : owner_of owners address ≡ Some k = rw same e in absurd cc

kept_cases : (owners : List Owner) (address node x m : ℕ) (t : Bool) → owner_of owners address ≡ Some node → (address == x) ≡ t → is_node (owner_of owners x) m ≡ (is_node (owner_of owners x) m || (node == m && t))
kept_cases owners address node x m true e h =
    let same : address ≡ x = same_number address x h in
    let found : owner_of owners x ≡ Some node = rw (← same) e in
    rw found (twice (node == m))
kept_cases owners address node x m false e h = absorbed (is_node (owner_of owners x) m) (node == m)

with_owner_adds : (at : FaultPlace) (key : Key) (owners : List Owner) (address node : ℕ) (o : Option ℕ) → owner_of owners address ≡ o → IfOk (with_owner at key owners address node o) (AddsOwner owners address node)
unfolding AddsOwner one_more
with_owner_adds at key owners address node None e = λ x m.
    ap (λ o. is_node o m) (owner_of-append owners address node x) ∙ new_cases owners address node x m (owner_of owners x) (address == x) e refl refl
with_owner_adds at key owners address node (Some other) e =
    when (other == node) owners (fault_with at key AddressTwice other) (AddsOwner owners address node) (λ is x m.
    let same : other ≡ node = same_number other node is in
    kept_cases owners address node x m (address == x) (rw (← same) e) refl)

owned_adds : (at : FaultPlace) (key : Key) (owners : List Owner) (address node : ℕ) → IfOk (owned at key owners address node) (AddsOwner owners address node)
owned_adds at key owners address node = with_owner_adds at key owners address node (owner_of owners address) refl

-- ---- one more node or link

enumerate_from-append : {A : Type 0} (n : ℕ) (xs : List A) (y : A) → enumerate_from n (xs ++ y ∷ []) ≡ enumerate_from n xs ++ (n + length xs, y) ∷ []
enumerate_from-append n [] y = rw add-zero refl
enumerate_from-append n (x ∷ xs) y =
    let next : n + 1 + length xs ≡ n + suc (length xs) = omega arith in
    ap (λ l. (n, x) ∷ l) (enumerate_from-append (n + 1) xs y ∙ ap (λ k. enumerate_from (n + 1) xs ++ (k, y) ∷ []) next)

is_id_of-append : (nodes : List Node) (node : Node) (m x : ℕ) → is_id_of (nodes ++ node ∷ []) m x ≡ (is_id_of nodes m x || ((length nodes == m && node.id == x) || false))
is_id_of-append nodes node m x =
    let p : ℕ × Node → Bool = λ q. q.0 == m && q.1.id == x in
    ap (λ l. list_any p l) (enumerate_from-append 0 nodes node)
    ∙ list_any-append p (enumerate_from 0 nodes) ((0 + length nodes, node) ∷ [])
    ∙ ap (λ k. is_id_of nodes m x || ((k == m && node.id == x) || false)) (zero-add (length nodes))

Owned : Ted → Type 0
Owned base = AreOwners base.nodes base.links base.owners

with_node_owned : (base : Ted) (t : Members) → Owned base → IfOk (with_node base t) Owned
unfolding with_node Owned AddsOwner
with_node_owned base t are =
    after (node_text (next_node base) t) _ Owned (λ fields.
    after (node_value (next_node base) fields) _ Owned (λ node.
    after (unnamed (next_node base) (node_named base.nodes node.name)) _ Owned (λ new.
    bind (owned (next_node base) Id base.owners node.id (length base.nodes)) _ (AddsOwner base.owners node.id (length base.nodes)) Owned (owned_adds (next_node base) Id base.owners node.id (length base.nodes))
    (λ owners adds x m.
    adds x m
    ∙ ap (λ b. b || (length base.nodes == m && node.id == x)) (are x m)
    ∙ first_more (is_id_of base.nodes m x) (is_local_of base.links m x) (is_remote_of base.links m x) (length base.nodes == m && node.id == x)
    ∙ ap (λ b. (b || is_local_of base.links m x) || is_remote_of base.links m x) (sym (is_id_of-append base.nodes node m x))))))

with_link_owned : (base : Ted) (t : Members) → Owned base → IfOk (with_link base t) Owned
unfolding with_link Owned AddsOwner
with_link_owned base t are =
    after (link_text (next_link base) t) _ Owned (λ fields.
    after (link_addresses (next_link base) fields) _ Owned (λ addresses.
    after (link_values (next_link base) fields) _ Owned (λ values.
    after (ends_of base fields) _ Owned (λ ends.
    bind (owned (next_link base) Local base.owners addresses.0 ends.0) _ (AddsOwner base.owners addresses.0 ends.0) Owned (owned_adds (next_link base) Local base.owners addresses.0 ends.0) (λ near near_adds.
    bind (owned (next_link base) Remote near addresses.1 ends.1) _ (AddsOwner near addresses.1 ends.1) Owned (owned_adds (next_link base) Remote near addresses.1 ends.1) (λ owners adds x m.
    let read : Link = link_of ends addresses values in
    let leaves : Link → Bool = λ l. l.from == m && l.local == x in
    let reaches : Link → Bool = λ l. l.to == m && l.remote == x in
    let id : Bool = is_id_of base.nodes m x in
    adds x m
    ∙ ap (λ b. b || (ends.1 == m && addresses.1 == x)) (near_adds x m)
    ∙ ap (λ b. (b || (ends.0 == m && addresses.0 == x)) || (ends.1 == m && addresses.1 == x)) (are x m)
    ∙ others_more id (list_any leaves base.links) (list_any reaches base.links) (ends.0 == m && addresses.0 == x) (ends.1 == m && addresses.1 == x)
    ∙ ap (λ b. (id || b) || (list_any reaches base.links || ((ends.1 == m && addresses.1 == x) || false))) (sym (list_any-append leaves base.links (read ∷ [])))
    ∙ ap (λ b. (id || list_any leaves (base.links ++ read ∷ [])) || b) (sym (list_any-append reaches base.links (read ∷ [])))))))))

with_nodes_owned : (ts : List Members) (base : Ted) → Owned base → IfOk (with_nodes ts base) Owned
with_nodes_owned [] base are = are
with_nodes_owned (t ∷ ts) base are = bind (with_node base t) _ Owned Owned (with_node_owned base t are) (λ next are'. with_nodes_owned ts next are')

with_links_owned : (ts : List Members) (base : Ted) → Owned base → IfOk (with_links ts base) Owned
with_links_owned [] base are = are
with_links_owned (t ∷ ts) base are = bind (with_link base t) _ Owned Owned (with_link_owned base t are) (λ next are'. with_links_owned ts next are')

-- ---- the whole document

nothing_owned : Owned empty_ted
unfolding Owned
nothing_owned = λ x m. refl

tree_owned : (t : Members) → IfOk (base_of_tree t) Owned
unfolding base_of_tree
tree_owned t =
    after (tables_at Nodes t) _ Owned (λ nodes.
    after (tables_at Links t) _ Owned (λ links.
    after (few_enough (length nodes) (length links)) _ Owned (λ _.
    bind (with_nodes nodes empty_ted) _ Owned Owned (with_nodes_owned nodes empty_ted nothing_owned) (λ base are.
    with_links_owned links base are))))

pub base_of_tree-owned : (t : Members) (base : Ted) → base_of_tree t ≡ Ok base → AreOwners base.nodes base.links base.owners
unfolding Owned
base_of_tree-owned t base is = IfOk-at_ok Owned is (tree_owned t)

is_node-iff : (o : Option ℕ) (node : ℕ) → (o ≡ Some node) ↔ IsTrue (is_node o node)
is_node-iff None node = (λ e. absurd cc, λ e. absurd cc)
is_node-iff (Some other) node = (λ e. (let same : other ≡ node = cc in equal_numbers other node same), λ e. ap (λ n. Some n) (same_number other node e))

-- the node that owns an address is the one that has it by nodes and links
pub owner_of-iff : (nodes : List Node) (links : List Link) (owners : List Owner) → AreOwners nodes links owners → (address node : ℕ) → (owner_of owners address ≡ Some node) ↔ IsTrue (owns nodes links node address)
owner_of-iff nodes links owners are address node =
    let P : Bool → Type 0 = λ b. (owner_of owners address ≡ Some node) ↔ IsTrue b in
    subst P (are address node) (is_node-iff (owner_of owners address) node)
