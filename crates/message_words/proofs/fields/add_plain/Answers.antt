use Rattle.message_words.proofs.Plain.{plain_is_utf8}
use Rattle.message_words.proofs.fields.add_plain.Goals as goal

pub unreachable-requires : goal.unreachable-requires
unreachable-requires c = c.in_default.ensures.cases.0 (plain_is_utf8 c.args.name.now c.requires)
