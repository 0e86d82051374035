use Rattle.pce_server.proofs.server.serve_run.Given as goal

abbrev pub ghosts-seated_run-B-Brands : goal.ghosts-seated_run-B-Brands
ghosts-seated_run-B-Brands g a = record { steps = a.steps.name; grants = a.grants.name }

abbrev pub ghosts-seated_run-B-StepNumbers : goal.ghosts-seated_run-B-StepNumbers
ghosts-seated_run-B-StepNumbers g a = record { table = a.room.table; seats = a.room.seats; log = a.history; text = a.te }
