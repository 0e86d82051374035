use Rattle.std.proofs.Common.{◌<◌, ◌≤◌, ◌++◌, ◌∷◌, [], length, set, ap, sym, subst, ◌∙◌, arith}
use Rattle.std.specs.Map.{values_of}
use Rattle.lsp_base.specs.Lsps.{put}
use Rattle.lsp_base.specs.Tables.{AreKeyed, RecordRoom}
use Rattle.lsp_base.specs.declared.effect.Record.{Record}
use Rattle.lsp_base.proofs.RecordEntries.{buckets_pushed, buckets_set, keyed_placed, placed}
use Rattle.lsp_base.proofs.record_table.RecordTable.put.Goals as goal

pub invariant_of-self : goal.invariant_of-self
invariant_of-self c =
    let known = c.self.invariant in
    let r : Record = record { peer = c.args.peer; plsp = c.args.plsp; lsp = c.args.lsp } in
    let es = c.self.inside.by_lsp.entries in
    let old = c.self.inside.by_name.buckets in
    let count = c.len-count.ensures.len in
    let below = c.if-place-count.true in
    let within : c.insert-place.result < length es = omega arith in
    let added = c.insert-place.ensures in (
      subst AreKeyed (sym added.entries) (keyed_placed r _ known.0),
      c.set.ensures.buckets ∙ ap (λ b. set old c.insert-place.result b) c.bucket-bucket.ensures ∙ buckets_set (record { peer = c.args.peer; plsp = c.args.plsp }) r es _ old c.insert-place.result known.1 added.place within added.entries,
    )

pub invariant_of-self-else-place-count : goal.invariant_of-self-else-place-count
invariant_of-self-else-place-count c =
    let known = c.self.invariant in
    let r : Record = record { peer = c.args.peer; plsp = c.args.plsp; lsp = c.args.lsp } in
    let es = c.self.inside.by_lsp.entries in
    let old = c.self.inside.by_name.buckets in
    let count = c.len-count.ensures.len in
    let above = c.if-place-count.false in
    let beyond : length es ≤ c.insert-place.result = omega arith in
    let added = c.insert-place.ensures in (
      subst AreKeyed (sym added.entries) (keyed_placed r _ known.0),
      c.push.ensures.buckets ∙ ap (λ b. old ++ b ∷ []) c.bucket-bucket.ensures ∙ buckets_pushed (record { peer = c.args.peer; plsp = c.args.plsp }) r es _ old c.insert-place.result known.1 added.place beyond added.entries,
    )

pub returns-then-place-count-clause-records : goal.returns-then-place-count-clause-records
returns-then-place-count-clause-records c =
    ap values_of c.insert-place.ensures.entries ∙ placed (record { peer = c.args.peer; plsp = c.args.plsp }) c.args.lsp _ c.self.invariant.0 ∙ ap (λ (t : RecordRoom). put t.records c.args.peer c.args.plsp c.args.lsp) c.self.view_is

pub returns-else-place-count-clause-records : goal.returns-else-place-count-clause-records
returns-else-place-count-clause-records c =
    ap values_of c.insert-place.ensures.entries ∙ placed (record { peer = c.args.peer; plsp = c.args.plsp }) c.args.lsp _ c.self.invariant.0 ∙ ap (λ (t : RecordRoom). put t.records c.args.peer c.args.plsp c.args.lsp) c.self.view_is
