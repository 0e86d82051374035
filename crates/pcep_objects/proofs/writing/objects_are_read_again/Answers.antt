use Rattle.pcep_objects.proofs.ObjectsAgain.{again}
use Rattle.pcep_objects.proofs.writing.objects_are_read_again.Goals as goal

pub returns : goal.returns
returns c = λ object rest normal fit. again object rest normal fit
