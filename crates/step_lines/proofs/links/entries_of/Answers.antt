use Rattle.std.proofs.Common.{lit<, rules, tests, ap, ◌∙◌}
use Rattle.std.proofs.lemmas.Iterator.{items_from_collect}
use Rattle.std.proofs.lemmas.Iterator.Consumers.{YieldsList-from_filter_map}
use Rattle.std.proofs.lemmas.Iterator.Splits.{YieldsList-from_str_split}
use Rattle.std.specs.Str.Iter.{split_text, split_has_more, split_pattern}
use Rattle.step_lines.specs.EventReading.{entry_in}
use Rattle.step_lines.proofs.links.entries_of.Goals as goal

pub returns : goal.returns
returns c =
    let source = c.filter_map.ensures.source in
    let pieces = YieldsList-from_str_split 59 c.args.text.now (lit< tt) (ap split_text source ∙ c.split.ensures.text) (ap split_has_more source ∙ c.split.ensures.has_more) (ap split_pattern source ∙ c.split.ensures.pattern) in
    items_from_collect _ c.collect.ensures.ran (YieldsList-from_filter_map _ entry_in pieces c.filter_map.ensures.closure (λ x r q k. search (rules, tests)))
