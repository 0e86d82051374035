use Rattle.std.proofs.Common.{◌≡◌, map, string_bytes}
use Rattle.base_lines.specs.Items.{counts_of, peers_items}
use Rattle.base_lines.specs.Words.{line_of}
use Rattle.base_lines.specs.declared.item.Item.TheVariants as item
use Rattle.base_lines.proofs.Texts.{whole}
use Rattle.base_lines.proofs.lines.base_text.Goals as goal

pub returns-clause-text : goal.returns-clause-text
returns-clause-text c =
    let placed = c.args.placed.now in
    let base = placed.base in
    rw (
      c.in_ok-push_str.ensures.bytes,
      c.in_ok-add_tickets.ensures,
      c.in_ok-add_names.ensures,
      c.in_ok-add_records.ensures,
      c.in_ok-add_paths.ensures,
      c.in_ok-add_peers.ensures.words,
      c.in_ok-add_values.ensures,
      c.in_ok-add_counts.ensures,
      c.new-text.ensures.bytes,
      c.as_slice.ensures,
      c.as_slice-2.ensures,
      c.as_slice-3.ensures,
      c.as_slice-4.ensures,
      c.as_slice-5.ensures,
      c.as_slice-6.ensures,
    )
    (whole
    (line_of (item.Counts (counts_of placed)))
    (map (λ v. item.Value v) base.values)
    (peers_items base.peers)
    (map (λ p. item.Path p) base.paths)
    (map (λ r. item.Record r) base.records)
    (map (λ a. item.Name a) base.names)
    (map (λ t. item.Ticket t) base.tickets))
