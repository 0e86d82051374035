use Rattle.std.proofs.Common.{◌≡◌, ◌<◌, ◌≤◌, ℕ, Option, length, take, sym, subst}
use Rattle.std.specs.Prelude.{filter, max, IfSome}
use Rattle.pce_seen.specs.Grants.{is_deletion_asked, is_grant_asked, up_to}
use Rattle.pce_seen.proofs.Spans.{few_first, few_second, full_both, inside_both}
use Rattle.pce_seen.proofs.grants.page_end.Goals as goal

pub returns-clause-few_grants : goal.returns-clause-few_grants
returns-clause-few_grants c =
    let p = is_grant_asked c.args.peer in
    let xs = c.args.paths.now in
    let a = c.full_at-grants in
    subst (λ (r : Option ℕ). length (filter p (up_to xs r)) ≤ 256) (sym c.sooner.ensures) (few_first p xs a.result c.full_at-deletions.result a.ensures.full a.ensures.none)

pub returns-clause-few_deletions : goal.returns-clause-few_deletions
returns-clause-few_deletions c =
    let q = is_deletion_asked c.args.peer in
    let ys = c.args.records.now in
    let b = c.full_at-deletions in
    subst (λ (r : Option ℕ). length (filter q (up_to ys r)) ≤ 256) (sym c.sooner.ensures) (few_second q ys c.full_at-grants.result b.result b.ensures.full b.ensures.none)

pub returns-clause-full : goal.returns-clause-full
returns-clause-full c =
    let p = is_grant_asked c.args.peer in
    let q = is_deletion_asked c.args.peer in
    let xs = c.args.paths.now in
    let ys = c.args.records.now in
    let a = c.full_at-grants in
    let b = c.full_at-deletions in
    subst (λ (r : Option ℕ). IfSome r (λ n. max (length (filter p (take n xs))) (length (filter q (take n ys))) ≡ 256)) (sym c.sooner.ensures)
    (full_both p q xs ys a.result b.result a.ensures.full a.ensures.none b.ensures.full b.ensures.none)

pub returns-clause-some : goal.returns-clause-some
returns-clause-some c =
    let xs = c.args.paths.now in
    let ys = c.args.records.now in
    let a = c.full_at-grants in
    let b = c.full_at-deletions in
    subst (λ (r : Option ℕ). IfSome r (λ n. (0 < n) × (n < max (length xs) (length ys)))) (sym c.sooner.ensures) (inside_both xs ys a.result b.result a.ensures.some b.ensures.some)
