use Rattle.std.proofs.Common.{◌≡◌, ◌≤◌, ◌++◌, ◌∷◌, [], ℕ, List, Some, length, slice_get, sym, ap, arith, ◌∙◌}
use Rattle.std.proofs.lemmas.List.{length-map, take_all}
use Rattle.te_snapshot.specs.declared.own.OwnShare.{OwnShare}
use Rattle.bandwidth_book.specs.declared.link_entries.LinkEntry.{LinkEntry}
use Rattle.bandwidth_book.specs.Entries.{entry_on, held_in, links_with}
use Rattle.bandwidth_book.specs.Ledgers.{count, held_at}
use Rattle.bandwidth_book.specs.Links.{own_among}
use Rattle.bandwidth_book.proofs.OwnShares.{among_next_entry, own_listed, rising_links, unlisted}
use Rattle.bandwidth_book.proofs.Rising.{found_at, get_at}
use Rattle.bandwidth_book.proofs.own.own_on.Goals as goal

pub loop-entry-preserved : goal.loop-entry-preserved
loop-entry-preserved c = λ paths held.
    let entries = c.entries-entries.result.now in
    let known = c.entries-entries.ensures in
    let entry = c.entry-item.result in
    let t = c.args.tunnel.now in
    let n = count c.args.ledgers.now in
    let i = c.loop-entry.entry-index in
    let there : slice_get entries i ≡ Some entry = get_at entries i entry c.loop-entry-test.true ∙ ap (λ (x : LinkEntry). Some x) (sym c.entry-item.is) in
    let same : held_at c.args.ledgers.now entry.link t ≡ entry.entry.held
    = ap (λ (xs : List LinkEntry). held_in (entry_on entry.link xs)) (sym known.entries) ∙ ap held_in (found_at entry entries i known.rising there) in
    let more : c.list_entry.new.own.items ≡ c.loop-entry.own.items ++ own_among paths t n (entry.link ∷ [])
    = rw c.count.ensures at (c.in_ok-list_entry.ensures paths t (λ h less. rw same at (held entry.link t h (let e = c.count.ensures in omega (arith, less, e))))) in
    more
    ∙ ap (λ (xs : List OwnShare). xs ++ own_among paths t n (entry.link ∷ [])) (c.loop-entry.invariant paths held)
    ∙ among_next_entry paths t n entries i entry there

pub returns : goal.returns
returns c = λ paths held.
    let entries = c.entries-entries.result.now in
    let known = c.entries-entries.ensures in
    let t = c.args.tunnel.now in
    let n = count c.args.ledgers.now in
    let long = length-map entries (λ (x : LinkEntry). x.link) in
    let more : length (links_with entries) ≤ c.loop-entry.entry-index = omega (arith, long) in
    c.loop-entry.invariant paths held
    ∙ ap (λ (xs : List ℕ). own_among paths t n xs) (take_all c.loop-entry.entry-index (links_with entries) more)
    ∙ own_listed (held_at c.args.ledgers.now) n (links_with entries) t
    (λ l none. ap (λ (xs : List LinkEntry). held_in (entry_on l xs)) (sym known.entries) ∙ ap held_in (unlisted l entries none))
    (rising_links entries known.rising) paths held
