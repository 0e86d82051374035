use Rattle.std.proofs.Common.{[], ap}
use Rattle.std.proofs.lemmas.List.{drop_all, drop_more}
use Rattle.metrics_text.specs.declared.format.Kind.TheVariants.{Gauge}
use Rattle.metrics_text.specs.declared.table.Family.{Family as Row}
use Rattle.metrics_text.specs.declared.table.Samples.TheVariants.{One}
use Rattle.metrics_text.specs.Rows.{rows_families}
use Rattle.metrics_text.proofs.Lines.{next_families, no_families}
use Rattle.metrics_text.proofs.table.put_families.Goals as goal

abbrev no_row : Row
no_row = record {
  metric = record { kind = Gauge; name = record { ref_ptr = (0, 0); now = [] }; help = record { ref_ptr = (0, 0); now = [] }; labels = record { ref_ptr = (0, 0); now = [] } };
  samples = One 0;
}

pub loop-row-preserved : goal.loop-row-preserved
loop-row-preserved c =
    next_families c.loop-row.text.items c.put_family.new.text.items _ _ _ _
    (ap (rows_families c.args.of.now) (drop_more c.args.rows.now c.loop-row.row-index no_row c.loop-row-test.true))
    c.in_ok-put_family.ensures c.loop-row.invariant

pub returns : goal.returns
returns c =
    no_families c.loop-row.text.items _ _ (ap (rows_families c.args.of.now) (drop_all c.loop-row.row-index c.args.rows.now c.loop-row-test.false)) c.loop-row.invariant
