-- What is seen of paths over a link, and of one more path.
use Rattle.std.proofs.Common.{◌≡◌, ◌==◌, ◌&&◌, ◌||◌, ℕ, Bool, true, false, not, cond, List, [], ◌∷◌, ◌++◌, filter, Option, Some, None, refl, sym, ap, ◌∙◌}
use Rattle.std.specs.Prelude.{filter_map, option_map, option_to_list}
use Rattle.std.specs.List.{cons_option, list_any}
use Rattle.std.proofs.lemmas.Bool.{and_parts, eqb-true}
use Rattle.std.proofs.lemmas.List.{append-nil}
use Rattle.std.proofs.lemmas.List.Elements.{filter-append, filter_map-append}
use Rattle.lsp_base.specs.Lsps.{Lsps, is_record_of, lsp_at}
use Rattle.lsp_base.specs.Shares.{has_link}
use Rattle.lsp_base.specs.declared.lsp.Lsp.{Lsp}
use Rattle.lsp_base.specs.declared.path.Path.{Path}
use Rattle.pce_seen.specs.Lsps.{lsp_in, lsp_of}
use Rattle.pce_seen.specs.Over.{same_lsp, each_once, lsp_with, lsps_over}
use Rattle.pce_seen.specs.declared.lsps.KnownLsp.{KnownLsp}

-- ---- one LSP more

abbrev other : KnownLsp → KnownLsp → Bool
other l k = not (same_lsp l k)

abbrev listed : KnownLsp → List KnownLsp → Bool
listed x ls = list_any (λ l. same_lsp l x) ls

once_more : (ls : List KnownLsp) (x : KnownLsp) → each_once (ls ++ x ∷ []) ≡ cond (listed x ls) (each_once ls) (each_once ls ++ x ∷ [])
once_more [] x = refl
once_more (l ∷ ls) x = ap (λ ks. l ∷ filter (other l) ks) (once_more ls x) ∙ by (listed x ls) (same_lsp l x) refl
  where
    ends : (s : Bool) → same_lsp l x ≡ s → filter (other l) (each_once ls ++ x ∷ []) ≡ filter (other l) (each_once ls) ++ cond (not s) (x ∷ []) []
    ends s is = filter-append (other l) (each_once ls) (x ∷ []) ∙ ap (λ b. filter (other l) (each_once ls) ++ cond (not b) (x ∷ []) []) is

    by : (b s : Bool) → same_lsp l x ≡ s → (l ∷ filter (other l) (cond b (each_once ls) (each_once ls ++ x ∷ []))) ≡ cond (s || b) (l ∷ filter (other l) (each_once ls)) (l ∷ filter (other l) (each_once ls) ++ x ∷ [])
    by true true is = refl
    by true false is = refl
    by false true is = ap (λ ks. l ∷ ks) (ends true is ∙ append-nil (filter (other l) (each_once ls)))
    by false false is = ap (λ ks. l ∷ ks) (ends false is)

same_as : (l k x : KnownLsp) → same_lsp l k ≡ true → same_lsp k x ≡ same_lsp l x
same_as l k x is =
    let both = and_parts ((l.known).peer == (k.known).peer) ((l.known).plsp == (k.known).plsp) is in
    let peer : (l.known).peer ≡ (k.known).peer = eqb-true (l.known).peer (k.known).peer both.0 in
    let number : (l.known).plsp ≡ (k.known).plsp = eqb-true (l.known).plsp (k.known).plsp both.1 in
    ap (λ v. v == (x.known).peer && (k.known).plsp == (x.known).plsp) (sym peer) ∙ ap (λ v. (l.known).peer == (x.known).peer && v == (x.known).plsp) (sym number)

-- leaving out another LSP doesn't change whether this one is listed
listed_apart : (l x : KnownLsp) → same_lsp l x ≡ false → (ks : List KnownLsp) → listed x (filter (other l) ks) ≡ listed x ks
listed_apart l x apart [] = refl
listed_apart l x apart (k ∷ ks) = by (same_lsp l k) refl (listed_apart l x apart ks)
  where
    by : (s : Bool) → same_lsp l k ≡ s → listed x (filter (other l) ks) ≡ listed x ks → listed x (cond (not s) (k ∷ filter (other l) ks) (filter (other l) ks)) ≡ (same_lsp k x || listed x ks)
    by true is rest = rest ∙ ap (λ b. b || listed x ks) (sym (same_as l k x is ∙ apart))
    by false is rest = ap (λ b. same_lsp k x || b) rest

listed_once : (ls : List KnownLsp) (x : KnownLsp) → listed x (each_once ls) ≡ listed x ls
listed_once [] x = refl
listed_once (l ∷ ls) x = by (same_lsp l x) refl (listed_once ls x)
  where
    by : (s : Bool) → same_lsp l x ≡ s → listed x (each_once ls) ≡ listed x ls → (s || listed x (filter (other l) (each_once ls))) ≡ (s || listed x ls)
    by true is rest = refl
    by false is rest = listed_apart l x is (each_once ls) ∙ rest

-- ---- one path more

abbrev is_listed : List KnownLsp → Path → Bool
is_listed seen x = list_any (λ l. is_record_of x.peer x.plsp l.known) seen

abbrev all_over : Lsps → ℕ → List Path → List KnownLsp
all_over lsps link paths = filter_map (lsp_with lsps) (filter (has_link link) paths)

as_list : (o : Option KnownLsp) → cons_option o [] ≡ option_to_list o
as_list None = refl
as_list (Some l) = refl

goes_over : (lsps : Lsps) (link : ℕ) (before : List Path) (x : Path) → has_link link x ≡ true → all_over lsps link (before ++ x ∷ []) ≡ all_over lsps link before ++ option_to_list (lsp_with lsps x)
goes_over lsps link before x over =
    ap (filter_map (lsp_with lsps)) (filter-append (has_link link) before (x ∷ []) ∙ ap (λ b. filter (has_link link) before ++ cond b (x ∷ []) []) over)
    ∙ filter_map-append (lsp_with lsps) (filter (has_link link) before) (x ∷ [])
    ∙ ap (λ ls. all_over lsps link before ++ ls) (as_list (lsp_with lsps x))

goes_beside : (lsps : Lsps) (link : ℕ) (before : List Path) (x : Path) → has_link link x ≡ false → all_over lsps link (before ++ x ∷ []) ≡ all_over lsps link before
goes_beside lsps link before x beside =
    ap (filter_map (lsp_with lsps)) (filter-append (has_link link) before (x ∷ []) ∙ ap (λ b. filter (has_link link) before ++ cond b (x ∷ []) []) beside ∙ append-nil (filter (has_link link) before))

once_with : (lsps : Lsps) (ls : List KnownLsp) (x : Path) → each_once (ls ++ option_to_list (lsp_with lsps x)) ≡ cond (is_listed (each_once ls) x) (each_once ls) (each_once ls ++ option_to_list (lsp_with lsps x))
once_with lsps ls x = by (lsp_at lsps.records x.peer x.plsp)
  where
    none : (b : Bool) → each_once (ls ++ []) ≡ cond b (each_once ls) (each_once ls ++ [])
    none true = ap each_once (append-nil ls)
    none false = ap each_once (append-nil ls) ∙ sym (append-nil (each_once ls))

    by : (o : Option Lsp) → each_once (ls ++ option_to_list (option_map (lsp_of lsps.paths x.peer x.plsp) o)) ≡ cond (is_listed (each_once ls) x) (each_once ls) (each_once ls ++ option_to_list (option_map (lsp_of lsps.paths x.peer x.plsp) o))
    by None = none (is_listed (each_once ls) x)
    by (Some lsp) =
        let l = lsp_of lsps.paths x.peer x.plsp lsp in
        once_more ls l ∙ ap (λ b. cond b (each_once ls) (each_once ls ++ l ∷ [])) (sym (listed_once ls l))

-- one more path goes over the link and its LSP isn't listed: what was seen of the paths before, and then that LSP
pub with_new : (lsps : Lsps) (link : ℕ) (before : List Path) (x : Path) (seen after : List KnownLsp) → (has_link link x && not (is_listed seen x)) ≡ true → after ≡ seen ++ option_to_list (lsp_in lsps x.peer x.plsp) → seen ≡ lsps_over lsps link before → after ≡ lsps_over lsps link (before ++ x ∷ [])
with_new lsps link before x seen after new is seen_of =
    let both = and_parts (has_link link x) (not (is_listed seen x)) new in
    let ls = all_over lsps link before in
    let unlisted = sym (ap (λ s. not (is_listed s x)) seen_of) ∙ both.1 in
    is
    ∙ ap (λ s. s ++ option_to_list (lsp_with lsps x)) seen_of
    ∙ sym (by (is_listed (each_once ls) x) (each_once ls) (each_once ls ++ option_to_list (lsp_with lsps x)) unlisted)
    ∙ sym (once_with lsps ls x)
    ∙ sym (ap each_once (goes_over lsps link before x both.0))
  where
    by : (b : Bool) (us vs : List KnownLsp) → not b ≡ true → cond b us vs ≡ vs
    by true us vs n = absurd (cc (n))
    by false us vs n = refl

-- one more path doesn't go over the link, or its LSP is listed: nothing more is seen
pub without_new : (lsps : Lsps) (link : ℕ) (before : List Path) (x : Path) (seen : List KnownLsp) → (has_link link x && not (is_listed seen x)) ≡ false → seen ≡ lsps_over lsps link before → seen ≡ lsps_over lsps link (before ++ x ∷ [])
without_new lsps link before x seen stays seen_of = seen_of ∙ by (has_link link x) (is_listed (each_once ls) x) refl refl (sym (ap (λ s. has_link link x && not (is_listed s x)) seen_of) ∙ stays)
  where
    ls : List KnownLsp
    ls = all_over lsps link before

    by : (h b : Bool) → has_link link x ≡ h → is_listed (each_once ls) x ≡ b → (h && not b) ≡ false → each_once ls ≡ each_once (all_over lsps link (before ++ x ∷ []))
    by false b beside known old = sym (ap each_once (goes_beside lsps link before x beside))
    by true true over known old = sym (ap each_once (goes_over lsps link before x over) ∙ once_with lsps ls x ∙ ap (λ b. cond b (each_once ls) (each_once ls ++ option_to_list (lsp_with lsps x))) known)
    by true false over known old = absurd (cc (old))
