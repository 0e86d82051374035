use Rattle.std.proofs.Common.{◌≡◌, true, length, take, All, ap, subst, arith, ◌∙◌}
use Rattle.std.proofs.Math.Seq.{take-length}
use Rattle.std.proofs.lemmas.List.Elements.{All-more, All-weaker}
use Rattle.te_snapshot.specs.Pages.{is_marked}
use Rattle.bandwidth_book.proofs.snapshots.mark_links.Goals as goal

pub loop-link-preserved : goal.loop-link-preserved
loop-link-preserved c =
    let links = c.args.links.now in
    let i = c.loop-link.link-index in
    record {
      marked = All-more (λ k. is_marked c.mark.new.self k ≡ true) links i 0 c.loop-link-test.true
          (All-weaker (λ k. is_marked c.loop-link.marks k ≡ true) (λ k. is_marked c.mark.new.self k ≡ true) (λ k. c.mark.ensures.kept k) (take i links) c.loop-link.invariant.marked)
          c.mark.ensures.marked;
      kept = λ k was. c.mark.ensures.kept k (c.loop-link.invariant.kept k was);
    }

pub returns-clause-marked : goal.returns-clause-marked
returns-clause-marked c =
    let links = c.args.links.now in
    let end : c.loop-link.link-index ≡ length links = let past = c.loop-link-test.false in let most = c.loop-link.auto.link-index-end in omega (arith, past, most) in
    subst (λ ks. All (λ k. is_marked c.loop-link.marks k ≡ true) ks) (ap (λ n. take n links) end ∙ take-length links) c.loop-link.invariant.marked
