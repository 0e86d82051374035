use Rattle.std.proofs.Common.{◌≡◌, List, drop, length}
use Rattle.lsp_base.specs.declared.path.Path.{Path}
use Rattle.bandwidth_book.specs.Books.{StandsFor}
use Rattle.link_reload.specs.Reloads.{IsBookOf, with_entries}
use Rattle.link_reload.proofs.Entries.{AreLinks}
use Rattle.link_reload.proofs.reloading.set_links.Given as goal

-- the rest of the entries leads to where all entries lead from the start, and each of them names a link
abbrev pub invariant-loop-entry : goal.invariant-loop-entry
invariant-loop-entry l = record {
  values : with_entries l.te (drop l.entry-index l.entries) ≡ with_entries l.fn.te l.entries;
  network : IsBookOf l.te l.book;
  stands : (paths : List Path) → StandsFor l.fn.book paths → StandsFor l.book paths;
  count : length l.te.links ≡ length l.fn.te.links;
  there : AreLinks (length l.fn.te.links) (drop l.entry-index l.entries);
}
