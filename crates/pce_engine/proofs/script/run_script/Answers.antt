use Rattle.pce_engine.proofs.script.run_script.Goals as goal

pub returns-in-Ok-Ended : goal.returns-in-Ok-Ended
returns-in-Ok-Ended g c = λ input known. rw c.in-Ok-Ended.field-0-is at (c.in-Ok-Ended.ensures input known)

pub returns-in-Ok-Endless : goal.returns-in-Ok-Endless
returns-in-Ok-Endless g c = λ input known. (rw c.in-Ok-Endless.field-0-is at (c.in-Ok-Endless.ensures input known)).0
