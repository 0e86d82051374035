use Rattle.pcep_word.proofs.Addresses.{spelled, every_text}
use Rattle.pcep_word.proofs.address.Ipv4.parse.Goals as goal

pub returns-clause-spelled : goal.returns-clause-spelled
returns-clause-spelled c = spelled c.args.text.now c.parsed.result c.parsed.ensures

pub returns-clause-every_text : goal.returns-clause-every_text
returns-clause-every_text c = every_text c.args.text.now c.parsed.result c.parsed.ensures
