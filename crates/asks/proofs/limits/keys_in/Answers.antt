use Rattle.std.proofs.Common.{lit<, rules, tests}
use Rattle.std.proofs.lemmas.Iterator.Consumers.{fold_from_yields_List}
use Rattle.std.proofs.lemmas.Iterator.Splits.{YieldsList-from_str_split}
use Rattle.asks.specs.Limits.{with_word}
use Rattle.asks.proofs.limits.keys_in.Goals as goal

pub returns : goal.returns
returns c =
    rw c.none.ensures at
    (fold_from_yields_List _ with_word _ _ c.fold.ensures.ran (YieldsList-from_str_split 32 c.args.line.now (lit< tt) c.split.ensures.text c.split.ensures.has_more c.split.ensures.pattern) (λ a x b q k. search (rules, tests)))
