-- What an LSPA and a BANDWIDTH say, or their absence, is what was written.
use Rattle.std.proofs.Common.{◌≡◌, ℕ, ◌≤◌, ◌==◌, not, min, max, Bool, true, false, List, [], ◌∷◌, ◌++◌, Option, Some, None, if◌then◌else◌, refl, sym, ap, ◌∙◌, arith}
use Rattle.std.specs.List.{AllByRecursion}
use Rattle.std.proofs.lemmas.Bool.Decides.{nat_tests}
use Rattle.pcep_word.specs.Priority.{InForce, in_force}
use Rattle.pcep_word.specs.Word.{IsBandwidth}
use Rattle.lsp_words.specs.declared.object.Colours.{Colours}
use Rattle.pcep_objects.specs.Spelling as spelling
use Rattle.pcep_objects.specs.declared.object.Lspa.{Lspa}
use Rattle.pcep_objects.specs.declared.object.Object.{Object}
use Rattle.pcep_objects.specs.declared.object.Object.TheVariants as objects
use Rattle.pcep_objects.specs.declared.object.BandwidthType.TheVariants.{Requested}
use Rattle.pcep_messages.specs.Normal.{IsWord, ArePriorities}
use Rattle.pcep_messages.specs.Reports.{priorities_of, colours_of, is_protected}
use Rattle.item_messages.specs.Objects.{if_any, are_usual, lspa_of, bandwidth_of, wish_objects}

-- ---- LSPA

-- what an LSPA says, or its absence
pub record Says (lspa : Option Lspa) (priorities : InForce) (colours : Colours) (protected : Bool) : Type 0 where
  pub same_priorities : priorities_of lspa ≡ priorities
  pub same_colours : colours_of lspa ≡ colours
  pub same_protected : is_protected lspa ≡ protected

abbrev priorities_with : ℕ → ℕ → InForce
priorities_with setup hold = record { setup = setup; hold = hold }

abbrev colours_with : ℕ → ℕ → ℕ → Colours
colours_with exclude any all = record { exclude_any = exclude; include_any = any; include_all = all }

usual_priorities : (p : InForce) → p.setup ≡ 7 → p.hold ≡ 7 → priorities_with 7 7 ≡ p
usual_priorities p setup hold = ap (λ (n : ℕ). priorities_with n 7) (sym setup) ∙ ap (λ (n : ℕ). priorities_with p.setup n) (sym hold)

usual_colours : (c : Colours) → c.exclude_any ≡ 0 → c.include_any ≡ 0 → c.include_all ≡ 0 → colours_with 0 0 0 ≡ c
usual_colours c exclude any all =
    ap (λ (n : ℕ). colours_with n 0 0) (sym exclude) ∙ ap (λ (n : ℕ). colours_with c.exclude_any n 0) (sym any) ∙ ap (λ (n : ℕ). colours_with c.exclude_any c.include_any n) (sym all)

unprotected : (b : Bool) → not b ≡ true → false ≡ b
unprotected true h = cc
unprotected false h = refl

pub in_force_again : (p : InForce) → p.hold ≤ p.setup → in_force p.setup p.hold ≡ p
in_force_again p better = let hold : min p.hold p.setup ≡ p.hold = omega arith in ap (λ (n : ℕ). priorities_with p.setup n) hold

abbrev lspa_by : Bool → InForce → Colours → Bool → Option Lspa
lspa_by usual p c protected = if usual then None else Some (record { colours = c; setup = p.setup; hold = p.hold; local_protection = protected })

says_by : (usual : Bool) (p : InForce) (c : Colours) (protected : Bool) → are_usual p c protected ≡ usual → p.hold ≤ p.setup → Says (lspa_by usual p c protected) p c protected
says_by true p c protected e better = record {
  same_priorities = usual_priorities p (grind (arith, nat_tests)) (grind (arith, nat_tests));
  same_colours = usual_colours c (grind (arith, nat_tests)) (grind (arith, nat_tests)) (grind (arith, nat_tests));
  same_protected = unprotected protected (grind (arith, nat_tests));
}
says_by false p c protected e better = record { same_priorities = in_force_again p better; same_colours = refl; same_protected = refl }

pub says : (p : InForce) (c : Colours) (protected : Bool) → p.hold ≤ p.setup → Says (lspa_of p c protected) p c protected
says p c protected better = says_by (are_usual p c protected) p c protected refl better

-- ---- BANDWIDTH

-- the greatest of no bandwidths, or of one
abbrev pub flow : Option ℕ → ℕ
flow None = 0
flow (Some bandwidth) = max 0 bandwidth

flow_by : (t : Bool) (bandwidth : ℕ) → (bandwidth == 0) ≡ t → flow (if t then None else Some bandwidth) ≡ bandwidth
flow_by true bandwidth e = grind (arith, nat_tests)
flow_by false bandwidth e = let h : max 0 bandwidth ≡ bandwidth = omega arith in h

pub flow_again : (bandwidth : ℕ) → flow (bandwidth_of bandwidth) ≡ bandwidth
flow_again bandwidth = flow_by (bandwidth == 0) bandwidth refl

-- ---- both are normal

abbrev pub AreNormal : List Object → Type 0
AreNormal objects = AllByRecursion spelling.IsNormal objects

pub both_normal : (xs ys : List Object) → AreNormal xs → AreNormal ys → AreNormal (xs ++ ys)
both_normal [] ys first second = second
both_normal (x ∷ xs) ys first second = (first.0, both_normal xs ys first.1 second)

abbrev AreColours : Colours → Type 0
AreColours c = IsWord c.exclude_any × IsWord c.include_any × IsWord c.include_all

lspa_normal : (usual : Bool) (p : InForce) (c : Colours) (protected : Bool) → ArePriorities p → AreColours c → AreNormal (if_any (λ lspa. objects.Lspa lspa) (lspa_by usual p c protected))
lspa_normal true p c protected priorities colours = tt
lspa_normal false p c protected priorities colours =
    (record { exclude_any = colours.0; include_any = colours.1; include_all = colours.2; setup = priorities.setup; hold = omega (arith, priorities.setup, priorities.hold) }, tt)

bandwidth_normal : (t : Bool) (bandwidth : ℕ) → IsBandwidth bandwidth → AreNormal (if_any (λ b. objects.Bandwidth Requested b) (if t then None else Some bandwidth))
bandwidth_normal true bandwidth is = tt
bandwidth_normal false bandwidth is = (is, tt)

pub wishes_normal : (p : InForce) (c : Colours) (protected : Bool) (bandwidth : ℕ) → ArePriorities p → IsWord c.exclude_any → IsWord c.include_any → IsWord c.include_all → IsBandwidth bandwidth
    → AreNormal (wish_objects p c protected bandwidth)
wishes_normal p c protected bandwidth priorities exclude any all is =
    both_normal (if_any (λ lspa. objects.Lspa lspa) (lspa_of p c protected)) (if_any (λ b. objects.Bandwidth Requested b) (bandwidth_of bandwidth))
    (lspa_normal (are_usual p c protected) p c protected priorities (exclude, any, all))
    (bandwidth_normal (bandwidth == 0) bandwidth is)
