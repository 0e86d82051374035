use Rattle.std.proofs.Common.{◌≡◌, ◌-◌, List, length, take, set, get_or, ap, sym, subst, ◌∙◌, rules}
use Rattle.std.specs.Map.{values_of}
use Rattle.lsp_base.specs.Lsps.{taken_away}
use Rattle.lsp_base.specs.Tables.{AreKeyed, RecordRoom}
use Rattle.lsp_base.specs.declared.effect.Record.{Record}
use Rattle.lsp_base.proofs.RecordEntries.{buckets_taken, keyed_taken, missing_stays, taken}
use Rattle.lsp_base.proofs.record_table.RecordTable.take.Goals as goal

pub invariant_of-self : goal.invariant_of-self
invariant_of-self c =
    let known = c.self.invariant in
    let es = c.self.inside.by_lsp.entries in
    let old = c.self.inside.by_name.buckets in
    let last = c.index-records-records.result in
    let records : c.as_slice-records.result.now ≡ values_of es = search rules in
    let is : last ≡ get_or (values_of es) (length (values_of es) - 1) last = subst (λ (rs : List Record). last ≡ get_or rs (length rs - 1) last) records c.index-records-records.is in
    let left = c.pop.ensures.buckets ∙ ap (λ bs. take (length bs - 1) bs) (c.set.ensures.buckets ∙ ap (λ b. set old c.in-Some.place b) c.bucket-last.ensures) in (
      subst AreKeyed (sym c.remove.ensures.entries) (keyed_taken _ _ known.0),
      left ∙ buckets_taken (record { peer = c.args.peer; plsp = c.args.plsp }) es _ old c.in-Some.place last known.1 (sym c.in-Some.ensures.index) is c.remove.ensures.entries,
    )

pub returns-in-Some-clause-records : goal.returns-in-Some-clause-records
returns-in-Some-clause-records c =
    ap values_of c.remove.ensures.entries ∙ taken (record { peer = c.args.peer; plsp = c.args.plsp }) _ c.self.invariant.0 ∙ ap (λ (t : RecordRoom). taken_away t.records c.args.peer c.args.plsp) c.self.view_is

pub returns-in_default-clause-records : goal.returns-in_default-clause-records
returns-in_default-clause-records c =
    let stays = missing_stays (record { peer = c.args.peer; plsp = c.args.plsp }) c.self.inside.by_lsp.entries c.self.invariant.0 (sym c.in_default.ensures.index) in
    subst (λ (t : RecordRoom). t.records ≡ taken_away t.records c.args.peer c.args.plsp) c.self.view_is stays
