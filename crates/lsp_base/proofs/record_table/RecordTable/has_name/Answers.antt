use Rattle.lsp_base.proofs.Keys.{named_picked}
use Rattle.lsp_base.proofs.record_table.RecordTable.has_name.Goals as goal

pub any-requires-clause-within : goal.any-requires-clause-within
any-requires-clause-within c = named_picked c.args.peer c.bucket_of_name-bucket.result c.args.name.now c.bucket_of_name-bucket.ensures
