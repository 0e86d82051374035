use Rattle.server_rules.proofs.places.PlaceTable.admit.Goals as goal

pub returns-in_ok-give_up-in-InsteadOf-clause-admitted : goal.returns-in_ok-give_up-in-InsteadOf-clause-admitted
returns-in_ok-give_up-in-InsteadOf-clause-admitted c = (c.in-InsteadOf.at, c.in-InsteadOf.ensures, c.in_ok-give_up-in-InsteadOf.ensures.given_up)
