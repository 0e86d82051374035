use Rattle.journal_files.proofs.Files.{in_order, read_again}
use Rattle.journal_files.proofs.laws.files_are_in_order.Goals as goal

pub returns : goal.returns
returns c = λ before after file. (in_order before file after, read_again before file after)
