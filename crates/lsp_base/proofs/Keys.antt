-- All of an LSP's items are in its bucket, and all that have a name are in the name's bucket.
use Rattle.std.proofs.Common.{◌≡◌, ◌⊎◌, inl, inr, ◌&&◌, ℕ, Bool, not, true, false, cond, eqb, List, [], ◌∷◌, ◌||◌, refl, sym, ◌∙◌, ap}
use Rattle.std.proofs.lemmas.Bool.{and_parts, or_cases, eqb-true}
use Rattle.std.specs.List.{list_any}
use Rattle.keyed_list.specs.List.{AllIn, AllInTwo}
use Rattle.lsp_base.specs.Lsps.{is_path_of, made_stale}
use Rattle.lsp_base.specs.Same.{same_links, same_path, is_reported}
use Rattle.lsp_base.specs.Grants.{is_grant_of}
use Rattle.lsp_base.specs.Tables.{bucket_number, is_named, name_bucket, path_bucket, record_bucket, PicksFrom}
use Rattle.lsp_base.specs.declared.path.Path.{Path}
use Rattle.lsp_base.proofs.Removal.{same_links-eq, same_path-eq}

pub same_path-bucket : (d : Path) (b : ℕ) → b ≡ path_bucket d → AllIn path_bucket (λ x. same_path x d) b
same_path-bucket d b e = λ x h. ap path_bucket (same_path-eq x d h) ∙ sym e

same_lsp : (a b peer plsp : ℕ) → (eqb a peer && eqb b plsp) ≡ true → bucket_number a b ≡ bucket_number peer plsp
same_lsp a b peer plsp h =
    let parts = and_parts (eqb a peer) (eqb b plsp) h in
    ap (λ (p : ℕ). bucket_number p b) (eqb-true _ _ parts.0) ∙ ap (bucket_number peer) (eqb-true _ _ parts.1)

pub lsp-bucket : (test : Path → Bool) (peer plsp b : ℕ) → b ≡ bucket_number peer plsp → AllIn path_bucket (λ x. test x && is_path_of peer plsp x) b
lsp-bucket test peer plsp b e = λ x is. same_lsp x.peer x.plsp peer plsp (and_parts (test x) (is_path_of peer plsp x) is).1 ∙ sym e

pub lsp-buckets : (test : Path → Bool) (peer plsp b c : ℕ) → b ≡ bucket_number peer plsp → c ≡ bucket_number peer 0 → PicksFrom test peer plsp → AllInTwo path_bucket test b c
lsp-buckets test peer plsp b c d e h = λ x is. by x (or_cases (is_path_of peer plsp x) (is_path_of peer 0 x) (h.of x is))
  where
    by : (x : Path) → (is_path_of peer plsp x ≡ true) ⊎ (is_path_of peer 0 x ≡ true) → (path_bucket x ≡ b) ⊎ (path_bucket x ≡ c)
    by x (inl m) = inl (same_lsp x.peer x.plsp peer plsp m ∙ sym d)
    by x (inr m) = inr (same_lsp x.peer x.plsp peer 0 m ∙ sym e)

-- the order of two tests doesn't matter: a grant of an LSP is a path of it that is a grant
and-swapped : (a b : Bool) → (a && b) ≡ (b && a)
and-swapped true true = refl
and-swapped true false = refl
and-swapped false true = refl
and-swapped false false = refl

pub grant_picked : (peer plsp : ℕ) (xs : List Path) → list_any (λ x. not (is_reported x.part) && is_path_of peer plsp x) xs ≡ list_any (is_grant_of peer plsp) xs
grant_picked peer plsp [] = refl
grant_picked peer plsp (x ∷ xs) = ap (λ b. b || list_any (λ x. not (is_reported x.part) && is_path_of peer plsp x) xs) (and-swapped (not (is_reported x.part)) (is_path_of peer plsp x)) ∙ ap (λ b. is_grant_of peer plsp x || b) (grant_picked peer plsp xs)

-- the records of a name
pub named_picked : (peer bucket : ℕ) (name : List ℕ) → bucket ≡ name_bucket peer name → AllIn record_bucket (is_named peer name) bucket
named_picked peer bucket name e = λ r h.
    let parts = and_parts (eqb r.peer peer) (same_links (r.lsp).name name) h in
    ap (λ p. name_bucket p (r.lsp).name) (eqb-true _ _ parts.0) ∙ ap (name_bucket peer) (same_links-eq _ _ parts.1) ∙ sym e

-- making a path stale leaves it in its bucket
pub stale-bucket : (peer : ℕ) (x : Path) → path_bucket (made_stale peer x) ≡ path_bucket x
stale-bucket peer x = by (eqb x.peer peer)
  where
    by : (b : Bool) → path_bucket (cond b (record x { fresh = false }) x) ≡ path_bucket x
    by true = refl
    by false = refl
