use Rattle.std.proofs.Common.{ℕ, List, ◌∙◌, option_map, subst}
use Rattle.server_talk.specs.Naming.{IsNamedText}
use Rattle.server_talk.proofs.Requesting.{all_kept, long_has_no_names, too_long}
use Rattle.server_talk.proofs.pending.OpenLine.named.Goals as goal

pub returns-then-self : goal.returns-then-self
returns-then-self c = λ line kept. long_has_no_names line (too_long c.args.self.now.is_long c.args.self.now.bytes.items line c.if-self.true kept.kept)

pub returns : goal.returns
returns c = λ line kept.
    subst (λ (bytes : List ℕ). IsNamedText (option_map (λ text. text.now) c.named_in.result) bytes) (c.deref.ensures.value ∙ all_kept c.args.self.now.is_long c.args.self.now.bytes.items line c.if-self.false kept.kept) c.named_in.ensures
