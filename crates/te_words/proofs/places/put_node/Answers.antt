use Rattle.std.proofs.Common.{◌≡◌, ◌++◌, ◌+◌, ◌∙◌, drop, sym, ap}
use Rattle.std.proofs.lemmas.Result.{on_ok_weaker}
use Rattle.json.specs.Json.{Items}
use Rattle.json.specs.Tree.{items_tokens}
use Rattle.te_words.specs.Places.{places_json, with_place}
use Rattle.te_words.proofs.Next.{next_place}
use Rattle.te_words.proofs.places.put_node.Goals as goal

pub returns-clause-written : goal.returns-clause-written
returns-clause-written c =
    let nodes = c.args.base.now.nodes in
    let old = c.args.writer.now.tokens in
    let next = next_place nodes c.args.number (record { name = c.in-Some.name.now; id = c.in-Some.field-0-1; place = c.in-Some.place }) (sym c.in-Some.ensures.node) in
    on_ok_weaker c.put_place_of.result
    (λ (written : (others : Items) → c.put_place_of.new.writer.tokens ++ items_tokens others ≡ old ++ items_tokens (with_place c.in-Some.name.now c.in-Some.place others)).
    written (places_json (drop (c.args.number + 1) nodes)) ∙ ap (λ items. old ++ items_tokens items) (sym next))
    c.put_place_of.ensures.written
