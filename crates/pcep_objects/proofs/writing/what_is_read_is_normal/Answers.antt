use Rattle.pcep_objects.proofs.NormalRead.{read_normal}
use Rattle.pcep_objects.proofs.writing.what_is_read_is_normal.Goals as goal

pub returns : goal.returns
returns c = λ bytes size object good clear reads. read_normal bytes size object good clear reads
