use Rattle.asks.proofs.Written.{rate_again, bandwidth_again}
use Rattle.asks.proofs.laws.rates_are_read_again.Goals as goal

pub returns-clause-bytes : goal.returns-clause-bytes
returns-clause-bytes c = rate_again

pub returns-clause-bandwidths : goal.returns-clause-bandwidths
returns-clause-bandwidths c = bandwidth_again
