use Rattle.history_seats.proofs.tests.run_named.Given as goal

abbrev pub ghosts-run-B-Brands : goal.ghosts-run-B-Brands
ghosts-run-B-Brands g a = record { steps = a.steps.name; grants = a.grants.name }

abbrev pub ghosts-run-B-StepNumbers : goal.ghosts-run-B-StepNumbers
ghosts-run-B-StepNumbers g a = record { table = a.room.table; seats = a.room.seats; log = a.history; text = a.database.start.state.te }
