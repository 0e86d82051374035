-- A walk names links of the base, and none twice.
use Rattle.std.proofs.Common.{◌≡◌, ◌≢◌, ℕ, ◌<◌, ◌==◌, ◌&&◌, Bool, true, false, List, [], ◌∷◌, ◌++◌, length, get_or, Option, Some, None, IfSome, All, AllPairs, position, fold, refl, arith, if◌then◌else◌}
use Rattle.std.proofs.lemmas.List.Elements.{All-nil, All-push}
use Rattle.std.proofs.lemmas.List.Quantifiers.{all_pairs_push}
use Rattle.std.proofs.lemmas.List.Folds.{list_any_at}
use Rattle.std.specs.List.{list_any}
use Rattle.std.specs.Option.{option_or}
use Rattle.lsp_words.specs.declared.object.Hop.{Hop}
use Rattle.lsp_words.specs.declared.object.Hop.TheVariants.{Host, Other}
use Rattle.te_base.specs.declared.network.Link.{Link}
use Rattle.te_base.specs.Ted.{Ted}
use Rattle.te_base.specs.Owners.{owner_of}
use Rattle.te_base.specs.Walk.{Position, joins, chosen_link, with_link_once, moved, hopped, walk_from, walk}
use Rattle.te_base.proofs.Found.{equal_numbers, position_within, either}

-- links below a number, and none of them twice
pub record AreSome (n : ℕ) (links : List ℕ) : Type 0 where
  pub below : All (λ l. l < n) links
  pub once : AllPairs (λ l k. l ≢ k) links

pub chosen_within : (links : List Link) (from to address : ℕ) (remembered : Option ℕ) → IfSome (chosen_link links from to address remembered) (λ l. l < length links)
chosen_within links from to address None =
    let Within : ℕ → Type 0 = λ l. l < length links in
    either (position (λ l. joins from to l && l.remote == address) links) (position (joins from to) links) Within (position_within (λ l. joins from to l && l.remote == address) links) (position_within (joins from to) links)
chosen_within links from to address (Some near) =
    let Within : ℕ → Type 0 = λ l. l < length links in
    let other : Option ℕ = position (λ l. joins from to l && l.local == near) links in
    either (position (λ l. joins from to l && l.remote == address) links) (option_or other (position (joins from to) links)) Within (position_within (λ l. joins from to l && l.remote == address) links)
    (either other (position (joins from to) links) Within (position_within (λ l. joins from to l && l.local == near) links) (position_within (joins from to) links))

absent : (links : List ℕ) (link : ℕ) → list_any (λ l. l == link) links ≡ false → (k d : ℕ) → k < length links → get_or links k d ≢ link
absent links link none k d lt same =
    let there : list_any (λ l. l == link) links ≡ true = list_any_at (λ l. l == link) links k d lt (equal_numbers (get_or links k d) link same) in
    absurd cc

pushed : (n : ℕ) (links : List ℕ) (link : ℕ) (t : Bool) → list_any (λ l. l == link) links ≡ t → link < n → AreSome n links → AreSome n (if t then links else links ++ link ∷ [])
pushed n links link true is lt are = are
pushed n links link false is lt are = record {
  below = All-push (λ l. l < n) links link are.below lt;
  once = all_pairs_push (λ l k. l ≢ k) links link are.once (absent links link is);
}

once_more : (n : ℕ) (links : List ℕ) (o : Option ℕ) → IfSome o (λ l. l < n) → AreSome n links → AreSome n (with_link_once links o)
once_more n links None lt are = are
once_more n links (Some link) lt are = pushed n links link (list_any (λ l. l == link) links) refl lt are

Fine : Ted → Position → Type 0
Fine base p = AreSome (length base.links) p.links

moved_fine : (base : Ted) (p : Position) (address : ℕ) (o : Option ℕ) → Fine base p → Fine base (moved base p address o)
unfolding Fine
moved_fine base p address None fine = fine
moved_fine base p address (Some node) fine =
    let next : Position = record { node = node; remembered = None; links = with_link_once p.links (chosen_link base.links p.node node address p.remembered) } in
    let stay : Position = record { node = p.node; remembered = Some address; links = p.links } in
    elim (node == p.node) as (λ t. AreSome (length base.links) (if t then stay else next).links)
    [ true ↦ fine | false ↦ once_more (length base.links) p.links (chosen_link base.links p.node node address p.remembered) (chosen_within base.links p.node node address p.remembered) fine ]

hopped_fine : (base : Ted) (p : Position) (hop : Hop) → Fine base p → Fine base (hopped base p hop)
hopped_fine base p (Host address loose) fine = moved_fine base p address (owner_of base.owners address) fine
hopped_fine base p (Other kind bytes) fine = fine

all_hops_fine : (base : Ted) (p : Position) (hops : List Hop) → Fine base p → Fine base (fold (hopped base) p hops)
all_hops_fine base p [] fine = fine
all_hops_fine base p (hop ∷ hops) fine = all_hops_fine base (hopped base p hop) hops (hopped_fine base p hop fine)

none : (n : ℕ) → AreSome n []
none n = record { below = All-nil (λ l. l < n); once = λ i j d lt within. absurd (omega arith) }

from_fine : (base : Ted) (o : Option ℕ) (hops : List Hop) (end : ℕ) → AreSome (length base.links) (walk_from base o hops end)
unfolding Fine
from_fine base None hops end = none (length base.links)
from_fine base (Some node) hops end =
    let p : Position = record { node = node; remembered = None; links = [] } in
    let q : Position = fold (hopped base) p hops in
    moved_fine base q end (owner_of base.owners end) (all_hops_fine base p hops (none (length base.links)))

pub walk_some : (base : Ted) (start : ℕ) (hops : List Hop) (end : ℕ) → AreSome (length base.links) (walk base start hops end)
walk_some base start hops end = from_fine base (owner_of base.owners start) hops end
