-- The metrics of the table have names of their own.
use Rattle.std.proofs.Common.{◌≡◌, ℕ, true, Option, Some, None, List, [], refl}
use Rattle.server_counts.specs.declared.counters.Counters.{Counters}
use Rattle.pce_seen.specs.declared.seen.Numbers.{Numbers}
use Rattle.pce_view.specs.declared.question.ServerInfo.{ServerInfo}
use Rattle.pce_view.specs.declared.shown_states.ShownState.{ShownState}
use Rattle.metrics_text.specs.declared.table.Process.{Process}
use Rattle.metrics_text.specs.Reading.{IsRead, are_named}
use Rattle.metrics_text.specs.Table.{counted_families, families, program, seen_families}
use Rattle.metrics_text.proofs.Reading.{read_again}

named : (info : ServerInfo) (n : Numbers) (c : Counters) (states : List ShownState) (resident open_now limit journal : Option ℕ)
    → are_named [] (families info n c (record { resident_bytes = resident; open_descriptors = open_now; descriptor_limit = limit; journal_steps = journal }) states) ≡ true
unfolding families program counted_families seen_families
named info n c states None None None None = refl
named info n c states None None None (Some j) = refl
named info n c states None None (Some l) None = refl
named info n c states None None (Some l) (Some j) = refl
named info n c states None (Some o) None None = refl
named info n c states None (Some o) None (Some j) = refl
named info n c states None (Some o) (Some l) None = refl
named info n c states None (Some o) (Some l) (Some j) = refl
named info n c states (Some r) None None None = refl
named info n c states (Some r) None None (Some j) = refl
named info n c states (Some r) None (Some l) None = refl
named info n c states (Some r) None (Some l) (Some j) = refl
named info n c states (Some r) (Some o) None None = refl
named info n c states (Some r) (Some o) None (Some j) = refl
named info n c states (Some r) (Some o) (Some l) None = refl
named info n c states (Some r) (Some o) (Some l) (Some j) = refl

pub all_read : (info : ServerInfo) (n : Numbers) (c : Counters) (process : Process) (states : List ShownState) → IsRead (families info n c process states)
all_read info n c process states =
    read_again (families info n c process states) (named info n c states process.resident_bytes process.open_descriptors process.descriptor_limit process.journal_steps)
