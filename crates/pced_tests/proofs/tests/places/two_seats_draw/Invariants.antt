use Rattle.te_base.specs.Ted.{empty_ted}
use Rattle.place_tokens.specs.Drawing.{no_table}
use Rattle.pced_tests.proofs.tests.places.two_seats_draw.Given as goal

abbrev pub ghosts-run : goal.ghosts-run
ghosts-run g a = record { table = a.room.table; seats = a.room.seats; log = no_table; text = empty_ted }
