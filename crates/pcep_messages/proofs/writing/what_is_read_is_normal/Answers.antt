use Rattle.pcep_messages.proofs.NormalRead.{read_normal}
use Rattle.pcep_messages.proofs.writing.what_is_read_is_normal.Goals as goal

pub returns : goal.returns
returns c = λ bytes message good reads. read_normal bytes message good reads
