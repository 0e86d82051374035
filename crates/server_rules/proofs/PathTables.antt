-- What one happening does to a table of paths.
use Rattle.std.proofs.Common.{◌≡◌, ◌≤◌, ◌&&◌, true, None, length, ap, ◌∙◌}
use Rattle.std.specs.Cmp.{IsEquivalence, nat_eq_equiv}
use Rattle.std.proofs.lemmas.Bool.{and_parts, eqb-true}
use Rattle.indexmap.specs.IndexMap.{IsUnique}
use Rattle.server_rules.specs.Keyed.{after}
use Rattle.server_rules.specs.declared.path_word.PathKey.{PathKey}
use Rattle.server_rules.specs.declared.path_word.PathHappening.{PathHappening}
use Rattle.server_rules.specs.declared.path_words.PathWords.{PathWords}
use Rattle.server_rules.specs.PathWords.{Adds, changed, concerns, is_same_path, noted_in}

pub path-eq : (a b : PathKey) → is_same_path a b ≡ true → a ≡ b
path-eq a b h =
    let p = and_parts _ _ h in
    let r = and_parts _ _ p.1 in
    λ j. record { peer = eqb-true a.peer b.peer p.0 j; plsp = eqb-true a.plsp b.plsp r.0 j; lsp = eqb-true a.lsp b.lsp r.1 j }

pub path_laws : IsEquivalence is_same_path
path_laws = record {
  refl = λ a j. nat_eq_equiv.refl a.peer j && (nat_eq_equiv.refl a.plsp j && nat_eq_equiv.refl a.lsp j);
  symm = λ a b j. nat_eq_equiv.symm a.peer b.peer j && (nat_eq_equiv.symm a.plsp b.plsp j && nat_eq_equiv.symm a.lsp b.lsp j);
  congr = λ a b c is. ap (λ (x : PathKey). is_same_path x c) (path-eq a b is);
}

pub adds : (old new : PathWords) (h : PathHappening) → (length old.paths.entries ≤ 16384 → length new.paths.entries ≤ 16384) → IsUnique is_same_path new.paths
    → (IsUnique is_same_path old.paths → (path : PathKey) → noted_in new path ≡ after concerns changed None h path (noted_in old path)) → Adds old new h
adds old new h fewer unique at = λ past knows. record {
  few = fewer knows.few;
  unique = unique;
  known = λ path. at knows.unique path ∙ ap (after concerns changed None h path) (knows.known path);
}
