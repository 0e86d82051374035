-- How many names are held for a grant when grants are dropped.
use Rattle.std.proofs.Common.{◌≡◌, ◌==◌, ◌&&◌, ℕ, ◌-◌, Bool, true, false, List, [], ◌∷◌, refl, sym, ap, ◌∙◌, arith}
use Rattle.std.specs.Prelude.{Some}
use Rattle.std.specs.Cmp.{nat_eq_equiv}
use Rattle.std.proofs.lemmas.Bool.{and_parts, both_ways, eqb-true, false_from_ne_true}
use Rattle.lsp_base.specs.Lsps.{without_first}
use Rattle.lsp_base.specs.Grants.{has_srp, is_unbound_grant}
use Rattle.lsp_base.specs.declared.tunnel.Part.{Part}
use Rattle.lsp_base.specs.declared.tunnel.Part.TheVariants.{Reported, Granted}
use Rattle.lsp_base.specs.declared.path.Path.{Path}
use Rattle.step_core.specs.Names.{is_of_grant}
use Rattle.step_core.specs.States.{is_grant_of_name, names_without}
use Rattle.step_core.specs.declared.names.AwaitedName.{AwaitedName}
use Rattle.step_core.specs.Consistent.{count}
use Rattle.step_core.proofs.Counts.{one, without_first-one, without_first-other}

-- the SRP-ID of the grant is that of its name
same_srp : (part : Part) (s t : ℕ) → has_srp (Some s) part ≡ true → has_srp (Some t) part ≡ (t == s)
same_srp (Reported i) s t is = absurd (cc (is))
same_srp (Granted k) s t is = ap (λ (j : ℕ). t == j) (sym (eqb-true s k is))

-- the name of an unbound grant is that of its peer and SRP-ID
name_of : (peer srp : ℕ) (x : Path) (a : AwaitedName) → is_unbound_grant peer (Some srp) x ≡ true → is_grant_of_name a x ≡ is_of_grant peer srp a
name_of peer srp x a is =
    let parts = and_parts (x.peer == peer && x.plsp == 0) (has_srp (Some srp) x.part) is in
    let first = and_parts (x.peer == peer) (x.plsp == 0) parts.0 in
    let peer_is : x.peer ≡ peer = eqb-true x.peer peer first.0 in
    ap (λ (b : Bool). x.peer == a.peer && b && has_srp (Some a.srp) x.part) first.1 ∙ ap (λ (b : Bool). x.peer == a.peer && true && b) (same_srp x.part srp a.srp parts.1)
    ∙ ap (λ (k : ℕ). k == a.peer && true && a.srp == srp) peer_is ∙ true_and (peer == a.peer) (a.srp == srp) ∙ ap (λ (b : Bool). b && a.srp == srp) (nat_eq_equiv.symm peer a.peer)
  where
    true_and : (b c : Bool) → (b && true && c) ≡ (b && c)
    true_and true c = refl
    true_and false c = refl

-- dropping another path leaves the names of the grant
pub other_name : (peer srp : ℕ) (x : Path) (a : AwaitedName) → is_unbound_grant peer (Some srp) x ≡ false → is_grant_of_name a x ≡ true → is_of_grant peer srp a ≡ false
other_name peer srp x a other is = false_from_ne_true _ (λ named.
    let parts = and_parts (a.peer == peer) (a.srp == srp) named in
    let peer_is : a.peer ≡ peer = eqb-true a.peer peer parts.0 in
    let srp_is : a.srp ≡ srp = eqb-true a.srp srp parts.1 in
    both_ways (is_unbound_grant peer (Some srp) x) other (ap (λ (k : ℕ). is_unbound_grant k (Some srp) x) (sym peer_is) ∙ ap (λ (k : ℕ). is_unbound_grant a.peer (Some k) x) (sym srp_is) ∙ is))

names_without_one : (peer srp : ℕ) (x : Path) (names : List AwaitedName) (b : Bool) → is_unbound_grant peer (Some srp) x ≡ b → count (is_of_grant peer srp) (without_first (λ a. is_grant_of_name a x) names) ≡ count (is_of_grant peer srp) names - one b
names_without_one peer srp x names true is = without_first-one (is_of_grant peer srp) (λ a. is_grant_of_name a x) (λ a. name_of peer srp x a is) names
names_without_one peer srp x names false is = let same = without_first-other (is_of_grant peer srp) (λ (a : AwaitedName). is_grant_of_name a x) (λ a. other_name peer srp x a is) names in omega (arith, same)

-- the names of a grant are dropped with it
pub names_without-count : (peer srp : ℕ) (names : List AwaitedName) (gone : List Path) → count (is_of_grant peer srp) (names_without names gone) ≡ count (is_of_grant peer srp) names - count (is_unbound_grant peer (Some srp)) gone
names_without-count peer srp names [] = omega arith
names_without-count peer srp names (x ∷ gone) =
    let here = names_without_one peer srp x names (is_unbound_grant peer (Some srp) x) refl in
    let rest = names_without-count peer srp (without_first (λ (a : AwaitedName). is_grant_of_name a x) names) gone in
    omega (arith, here, rest)
