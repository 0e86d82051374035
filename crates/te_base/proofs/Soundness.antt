-- Each base that a document says is sound.
use Rattle.std.proofs.Common.{◌≡◌, ◌≢◌, ℕ, ℤ, pos, negsuc, ◌+◌, ◌<◌, ◌≤◌, ◌==◌, ◌&&◌, nat_le, true, false, List, [], ◌∷◌, length, Option, Some, None, Ok, IfOk, IfSome, All, option_map, find, refl, sym, subst, arith, length-append, if◌then◌else◌}
use Rattle.std.proofs.lemmas.List.Elements.{All-nil, All-push, All-weaker, All-head, All-tail}
use Rattle.std.proofs.lemmas.Bool.Decides.{nat_tests}
use Rattle.std.proofs.lemmas.Grind.{common_steps}
use Rattle.std.proofs.lemmas.Result.{IfOk-weaker, IfOk-at_ok}
use Rattle.std.specs.Str.{bytes_eq}
use Rattle.toml.specs.Data.{Members}
use Rattle.te_base.specs.declared.fault.FaultPlace.{FaultPlace}
use Rattle.te_base.specs.declared.fault.FaultPlace.TheVariants.{InText}
use Rattle.te_base.specs.declared.fault.TeFault.TheVariants.{OutOfRange, UnknownNode, AddressTwice, SelfLoop, TooMany}
use Rattle.te_base.specs.declared.fault.PlacedFault.{PlacedFault}
use Rattle.te_base.specs.declared.keys.Key.{Key}
use Rattle.te_base.specs.declared.keys.Key.TheVariants.{Id, From, To, Local, Remote, Igp, Te, Colour, Reservable}
use Rattle.te_base.specs.declared.keys.TableKind.TheVariants.{Nodes, Links}
use Rattle.te_base.specs.declared.network.Node.{Node}
use Rattle.te_base.specs.declared.network.Link.{Link}
use Rattle.te_base.specs.declared.network.Owner.{Owner}
use Rattle.te_base.specs.Faults.{some_or}
use Rattle.te_base.specs.Keys.{is_within}
use Rattle.te_base.specs.Places.{fault_at, fault_in, fault_with}
use Rattle.te_base.proofs.Steps.{bind, after, when, unless, some_or_is}
use Rattle.te_base.proofs.Found.{position_within}
use Rattle.te_base.proofs.Ownership.{base_of_tree-owned}
use Rattle.te_base.specs.Ted.{Ted, empty_ted, IsLinkAmong, IsSound}
use Rattle.te_base.specs.Owners.{owner_of, with_owner, owned}
use Rattle.te_base.specs.Fields.{LinkText, node_text, link_text, tables_at}
use Rattle.te_base.specs.Ranges.{number_in, node_value, link_addresses, link_values}
use Rattle.te_base.specs.Values.{AreInRange}
use Rattle.te_base.specs.LinkText.{node_named, next_node, next_link, unnamed, with_node, ends_of, link_of, with_link, with_nodes, with_links, few_enough, base_of_tree}

-- ---- values in range

IsWithin : Key → ℕ → Type 0
IsWithin key n = is_within key n ≡ true

within : (at : FaultPlace) (key : Key) (z : ℤ) → IfOk (number_in at key z) (IsWithin key)
unfolding IsWithin
within at key (pos n) = when (is_within key n) n (fault_at at key OutOfRange) (IsWithin key) (λ is. is)
within at key (negsuc n) = tt

ranges : (igp te colour reservable : ℕ) → is_within Igp igp ≡ true → is_within Te te ≡ true → is_within Reservable reservable ≡ true → AreInRange (record { igp = igp; te = te; colour = colour; reservable = reservable })
ranges igp te colour reservable = grind (arith, nat_tests, common_steps)

link_values_range : (at : FaultPlace) (t : LinkText) → IfOk (link_values at t) AreInRange
unfolding link_values IsWithin
link_values_range at t =
    bind (number_in at Igp t.igp) _ (IsWithin Igp) AreInRange (within at Igp t.igp) (λ igp igp_in.
    bind (number_in at Te t.te) _ (IsWithin Te) AreInRange (within at Te t.te) (λ te te_in.
    after (number_in at Colour t.colour) _ AreInRange (λ colour.
    bind (number_in at Reservable t.reservable) _ (IsWithin Reservable) AreInRange (within at Reservable t.reservable) (λ reservable reservable_in.
    ranges igp te colour reservable igp_in te_in reservable_in))))

-- ---- ends and owners

node_named_within : (nodes : List Node) (name : List ℕ) (n : ℕ) → node_named nodes name ≡ Some n → n < length nodes
node_named_within nodes name n is = rw is at (position_within (λ m. bytes_eq m.name name) nodes)

differ : (a b : ℕ) → (a == b) ≡ false → a ≢ b
differ a b = grind (arith, nat_tests, common_steps)

pub record AreEnds (nodes : ℕ) (ends : ℕ × ℕ) : Type 0 where
  from : ends.0 < nodes
  to : ends.1 < nodes
  apart : ends.0 ≢ ends.1

ends_within : (base : Ted) (t : LinkText) → IfOk (ends_of base t) (AreEnds (length base.nodes))
unfolding ends_of
ends_within base t =
    let Within : ℕ → Type 0 = λ n. n < length base.nodes in
    let unknown : Key → PlacedFault = λ key. fault_at (next_link base) key UnknownNode in
    let found : (key : Key) (name : List ℕ) → IfOk (some_or (unknown key) (node_named base.nodes name)) Within = λ key name. some_or_is (unknown key) (node_named base.nodes name) Within (node_named_within base.nodes name) in
    bind (some_or (unknown From) (node_named base.nodes t.from)) _ Within (AreEnds (length base.nodes)) (found From t.from) (λ from from_in.
    bind (some_or (unknown To) (node_named base.nodes t.to)) _ Within (AreEnds (length base.nodes)) (found To t.to) (λ to to_in.
    unless (from == to) (from, to) (fault_in (next_link base) SelfLoop) (AreEnds (length base.nodes)) (λ other. record { from = from_in; to = to_in; apart = differ from to other })))

AreNodes : ℕ → List Owner → Type 0
AreNodes nodes owners = All (λ o. o.node < nodes) owners

with_owner_within : (nodes : ℕ) (at : FaultPlace) (key : Key) (owners : List Owner) (address node : ℕ) (o : Option ℕ) → AreNodes nodes owners → node < nodes → IfOk (with_owner at key owners address node o) (AreNodes nodes)
unfolding AreNodes
with_owner_within nodes at key owners address node None all lt = All-push (λ o. o.node < nodes) owners (record { address = address; node = node }) all lt
with_owner_within nodes at key owners address node (Some other) all lt = when (other == node) owners (fault_with at key AddressTwice other) (AreNodes nodes) (λ _. all)

-- ---- one table after the other

-- A base of this many nodes and links, whose links and owners are of these nodes.
pub record Joined (nodes links : ℕ) (base : Ted) : Type 0 where
  nodes_are : length base.nodes ≡ nodes
  links_are : length base.links ≡ links
  joined : All (IsLinkAmong nodes) base.links
  owned : AreNodes nodes base.owners

renamed : (n m k h : ℕ) (base : Ted) → n ≡ m → k ≡ h → Joined n k base → Joined m h base
renamed n m k h base e f j =
    let one : Joined m k base = (let P : ℕ → Type 0 = λ a. Joined a k base in subst P e j) in
    let P : ℕ → Type 0 = λ a. Joined m a base in subst P f one

link_of_more : (n : ℕ) (l : Link) → IsLinkAmong n l → IsLinkAmong (n + 1) l
link_of_more n l is = record {
  from = omega arith;
  to = omega arith;
  apart = is.apart;
  igp_positive = is.igp_positive;
  igp_small = is.igp_small;
  te_positive = is.te_positive;
  te_small = is.te_small;
  reservable_small = is.reservable_small;
}

with_node_joined : (base : Ted) (t : Members) (n k : ℕ) → Joined n k base → IfOk (with_node base t) (Joined (n + 1) k)
unfolding with_node AreNodes
with_node_joined base t n k j =
    let number : length base.nodes < n + 1 = omega arith in
    let before : All (λ o. o.node < n + 1) base.owners = All-weaker (λ o. o.node < n) (λ o. o.node < n + 1) (λ o lt. omega arith) base.owners j.owned in
    after (node_text (next_node base) t) _ (Joined (n + 1) k) (λ fields.
    after (node_value (next_node base) fields) _ (Joined (n + 1) k) (λ node.
    after (unnamed (next_node base) (node_named base.nodes node.name)) _ (Joined (n + 1) k) (λ new.
    bind (owned (next_node base) Id base.owners node.id (length base.nodes)) _ (AreNodes (n + 1)) (Joined (n + 1) k)
    (with_owner_within (n + 1) (next_node base) Id base.owners node.id (length base.nodes) (owner_of base.owners node.id) before number)
    (λ owners owners_in. record {
      nodes_are = omega (arith, length-append base.nodes (node ∷ []));
      links_are = j.links_are;
      joined = All-weaker (IsLinkAmong n) (IsLinkAmong (n + 1)) (link_of_more n) base.links j.joined;
      owned = owners_in;
    }))))

with_link_joined : (base : Ted) (t : Members) (n k : ℕ) → Joined n k base → IfOk (with_link base t) (Joined n (k + 1))
unfolding with_link AreNodes
with_link_joined base t n k j =
    after (link_text (next_link base) t) _ (Joined n (k + 1)) (λ fields.
    after (link_addresses (next_link base) fields) _ (Joined n (k + 1)) (λ addresses.
    bind (link_values (next_link base) fields) _ AreInRange (Joined n (k + 1)) (link_values_range (next_link base) fields) (λ values range.
    bind (ends_of base fields) _ (AreEnds (length base.nodes)) (Joined n (k + 1)) (ends_within base fields) (λ ends are.
    let from : ends.0 < n = omega arith in
    let to : ends.1 < n = omega arith in
    bind (owned (next_link base) Local base.owners addresses.0 ends.0) _ (AreNodes n) (Joined n (k + 1)) (with_owner_within n (next_link base) Local base.owners addresses.0 ends.0 (owner_of base.owners addresses.0) j.owned from) (λ near near_in.
    bind (owned (next_link base) Remote near addresses.1 ends.1) _ (AreNodes n) (Joined n (k + 1)) (with_owner_within n (next_link base) Remote near addresses.1 ends.1 (owner_of near addresses.1) near_in to) (λ owners owners_in.
    let read : Link = link_of ends addresses values in
    let is : IsLinkAmong n read = record { from = from; to = to; apart = are.apart; igp_positive = range.igp_positive; igp_small = range.igp_small; te_positive = range.te_positive; te_small = range.te_small; reservable_small = range.reservable_small } in
    record {
      nodes_are = j.nodes_are;
      links_are = omega (arith, length-append base.links (read ∷ []));
      joined = All-push (IsLinkAmong n) base.links read j.joined is;
      owned = owners_in;
    }))))))

with_nodes_joined : (ts : List Members) (base : Ted) (n m k : ℕ) → n + length ts ≡ m → Joined n k base → IfOk (with_nodes ts base) (Joined m k)
with_nodes_joined [] base n m k e j = renamed n m k k base (omega arith) refl j
with_nodes_joined (t ∷ ts) base n m k e j =
    bind (with_node base t) _ (Joined (n + 1) k) (Joined m k) (with_node_joined base t n k j) (λ next j'. with_nodes_joined ts next (n + 1) m k (omega arith) j')

with_links_joined : (ts : List Members) (base : Ted) (n k h : ℕ) → k + length ts ≡ h → Joined n k base → IfOk (with_links ts base) (Joined n h)
with_links_joined [] base n k h e j = renamed n n k h base refl (omega arith) j
with_links_joined (t ∷ ts) base n k h e j =
    bind (with_link base t) _ (Joined n (k + 1)) (Joined n h) (with_link_joined base t n k j) (λ next j'. with_links_joined ts next n (k + 1) h (omega arith) j')

-- ---- the whole text

few_test : (nodes links : ℕ) → (nat_le nodes 1024 && nat_le links 4096) ≡ true → (nodes ≤ 1024) × (links ≤ 4096)
few_test nodes links = grind (arith, nat_tests, common_steps)

few : (nodes links : ℕ) → IfOk (few_enough nodes links) (λ _. (nodes ≤ 1024) × (links ≤ 4096))
few nodes links = when (nat_le nodes 1024 && nat_le links 4096) tt (fault_in InText TooMany) (λ _. (nodes ≤ 1024) × (links ≤ 4096)) (few_test nodes links)

nothing_joined : Joined 0 0 empty_ted
unfolding AreNodes
nothing_joined = record { nodes_are = refl; links_are = refl; joined = All-nil (IsLinkAmong 0); owned = All-nil (λ o. o.node < 0) }

pub record IsBounded (base : Ted) : Type 0 where
  few_nodes : length base.nodes ≤ 1024
  few_links : length base.links ≤ 4096
  links : All (IsLinkAmong (length base.nodes)) base.links
  owners : All (λ o. o.node < length base.nodes) base.owners

joined_bounded : (n k : ℕ) (base : Ted) → n ≤ 1024 → k ≤ 4096 → Joined n k base → IsBounded base
unfolding AreNodes
joined_bounded n k base few_nodes few_links j = record {
  few_nodes = omega arith;
  few_links = omega arith;
  links = (let P : ℕ → Type 0 = λ a. All (IsLinkAmong a) base.links in subst P (sym j.nodes_are) j.joined);
  owners = (let P : ℕ → Type 0 = λ a. All (λ o. o.node < a) base.owners in subst P (sym j.nodes_are) j.owned);
}

tree_bounded : (t : Members) → IfOk (base_of_tree t) IsBounded
unfolding base_of_tree
tree_bounded t =
    after (tables_at Nodes t) _ IsBounded (λ nodes.
    after (tables_at Links t) _ IsBounded (λ links.
    bind (few_enough (length nodes) (length links)) _ (λ _. (length nodes ≤ 1024) × (length links ≤ 4096)) IsBounded (few (length nodes) (length links)) (λ _ limits.
    bind (with_nodes nodes empty_ted) _ (Joined (length nodes) 0) IsBounded (with_nodes_joined nodes empty_ted 0 (length nodes) 0 (omega arith) nothing_joined) (λ base j.
    IfOk-weaker (with_links links base) (Joined (length nodes) (length links)) IsBounded (λ b j'. joined_bounded (length nodes) (length links) b limits.0 limits.1 j')
    (with_links_joined links base (length nodes) 0 (length links) (omega arith) j)))))

-- Each base that a document says is sound.
pub base_of_tree-sound : (t : Members) (base : Ted) → base_of_tree t ≡ Ok base → IsSound base
base_of_tree-sound t base is =
    let b : IsBounded base = IfOk-at_ok IsBounded is (tree_bounded t) in
    record { few_nodes = b.few_nodes; few_links = b.few_links; links = b.links; owners = b.owners; owned = base_of_tree-owned t base is }

-- an owner is a node where all owners are
pub owner_within : (nodes : ℕ) (owners : List Owner) (address : ℕ) → All (λ o. o.node < nodes) owners → IfSome (owner_of owners address) (λ n. n < nodes)
owner_within nodes [] address all = tt
owner_within nodes (o ∷ os) address all =
    elim (o.address == address) as (λ b. IfSome (option_map (λ x. x.node) (if b then Some o else find (λ x. x.address == address) os)) (λ n. n < nodes))
    [ true ↦ All-head (λ x. x.node < nodes) o os all | false ↦ owner_within nodes os address (All-tail (λ x. x.node < nodes) o os all) ]
