use Rattle.pced_tests.proofs.tests.shared.run_once.Given as goal

abbrev pub ghosts-on_shared-B-Brands : goal.ghosts-on_shared-B-Brands
ghosts-on_shared-B-Brands g a = record { steps = a.steps.name; grants = a.grants.name }

abbrev pub ghosts-on_shared-B-StepNumbers : goal.ghosts-on_shared-B-StepNumbers
ghosts-on_shared-B-StepNumbers g a = record { table = a.room.table; seats = a.room.seats; log = a.history; text = a.database.start.state.te }
