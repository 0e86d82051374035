use Rattle.bandwidth_book.proofs.Busy.{decided}
use Rattle.bandwidth_book.proofs.link_entries.is_busy.Goals as goal

pub returns : goal.returns
returns c = decided c.is_idle.result c.args.entry.now.entry c.is_idle.ensures.idle c.is_idle.ensures.busy
