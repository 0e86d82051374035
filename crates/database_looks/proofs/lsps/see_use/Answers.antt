use Rattle.database_looks.proofs.lsps.see_use.Goals as goal

pub ends_of-requires-clause-from : goal.ends_of-requires-clause-from
ends_of-requires-clause-from c = rw c.te_base.ensures c.requires.among.from

pub ends_of-requires-clause-to : goal.ends_of-requires-clause-to
ends_of-requires-clause-to c = rw c.te_base.ensures c.requires.among.to
