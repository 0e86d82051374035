use Rattle.pcep_objects.specs.Objects.{object_at}
use Rattle.pcep_objects.proofs.Answered.{one_answer}
use Rattle.pcep_objects.proofs.reading.objects_are_read_or_faulty.Goals as goal

pub returns : goal.returns
returns c = λ bytes. one_answer (object_at bytes)
