use Rattle.history_seats.proofs.tests.an_audited_database_is_given.Given as goal

abbrev pub ghosts-run_closed-B-Brands : goal.ghosts-run_closed-B-Brands
ghosts-run_closed-B-Brands g a = record { steps = a.steps.name; grants = a.grants.name }

abbrev pub ghosts-run_closed-B-StepNumbers : goal.ghosts-run_closed-B-StepNumbers
ghosts-run_closed-B-StepNumbers g a = record { table = a.room.table; seats = a.room.seats; log = a.history; text = a.database.start.state.te }
