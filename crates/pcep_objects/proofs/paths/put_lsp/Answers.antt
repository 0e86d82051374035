use Rattle.pcep_objects.proofs.paths.put_lsp.Goals as goal

pub returns-in-Some-clause-written : goal.returns-in-Some-clause-written
returns-in-Some-clause-written c = rw (c.in-Some.is, ← c.as_slice.ensures) c.put_named.ensures.written
