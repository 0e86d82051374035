use Rattle.std.proofs.Common.{◌≡◌, true, length, take, All, ap, subst, arith, ◌∙◌}
use Rattle.std.proofs.Math.Seq.{take-length}
use Rattle.std.proofs.lemmas.List.Elements.{All-more, All-weaker}
use Rattle.lsp_base.specs.declared.path.Path.{Path}
use Rattle.te_snapshot.specs.Pages.{is_marked}
use Rattle.bandwidth_book.proofs.snapshots.mark_paths.Goals as goal

pub loop-path-preserved : goal.loop-path-preserved
loop-path-preserved c =
    let paths = c.args.paths.now in
    let i = c.loop-path.path-index in
    let x = c.path-item.result in
    let here : All (λ k. is_marked c.mark_links.new.marks k ≡ true) x.links = rw c.as_slice.ensures at c.mark_links.ensures.marked in
    record {
      marked = All-more (λ (y : Path). All (λ k. is_marked c.mark_links.new.marks k ≡ true) y.links) paths i x c.loop-path-test.true
          (All-weaker (λ (y : Path). All (λ k. is_marked c.loop-path.marks k ≡ true) y.links) (λ (y : Path). All (λ k. is_marked c.mark_links.new.marks k ≡ true) y.links)
          (λ y all. All-weaker (λ k. is_marked c.loop-path.marks k ≡ true) (λ k. is_marked c.mark_links.new.marks k ≡ true) (λ k. c.mark_links.ensures.kept k) y.links all) (take i paths) c.loop-path.invariant.marked)
          (subst (λ (y : Path). All (λ k. is_marked c.mark_links.new.marks k ≡ true) y.links) c.path-item.is here);
      kept = λ k was. c.mark_links.ensures.kept k (c.loop-path.invariant.kept k was);
    }

pub returns-clause-marked : goal.returns-clause-marked
returns-clause-marked c =
    let paths = c.args.paths.now in
    let end : c.loop-path.path-index ≡ length paths = let past = c.loop-path-test.false in let most = c.loop-path.auto.path-index-end in omega (arith, past, most) in
    subst (λ xs. All (λ (y : Path). All (λ k. is_marked c.loop-path.marks k ≡ true) y.links) xs) (ap (λ n. take n paths) end ∙ take-length paths) c.loop-path.invariant.marked
