use Rattle.std.proofs.Common.{◌≡◌, filter, rules}
use Rattle.bandwidth_book.specs.Entries.{is_busy}
use Rattle.bandwidth_book.specs.declared.link_entries.LinkEntry.{LinkEntry}
use Rattle.bandwidth_book.proofs.Busy.{filtered}
use Rattle.bandwidth_book.proofs.Rising.{entry_filter, rising_filter}
use Rattle.bandwidth_book.proofs.link_entries.drop_idle.Goals as goal

left : (c : goal.After-retain) → c.retain.new.self.items ≡ filter (λ (x : LinkEntry). is_busy x.entry) c.args.entries.now.items
left c = filtered _ (λ (x : LinkEntry). is_busy x.entry) _ (λ x b f' y called. search rules) _ _ c.retain.ensures.filtered

pub returns-clause-rising : goal.returns-clause-rising
returns-clause-rising c = rw (left c) (rising_filter (λ (x : LinkEntry). is_busy x.entry) c.args.entries.now.items c.requires)

pub returns-clause-busy : goal.returns-clause-busy
returns-clause-busy c = λ l. rw (left c) (entry_filter l c.args.entries.now.items c.requires)
