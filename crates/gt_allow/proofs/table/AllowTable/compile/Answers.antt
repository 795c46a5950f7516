use Rattle.gt_policy.specs.Kept.{may_of}
use Rattle.gt_allow.proofs.TableLemmas.{rows_more}
use Rattle.gt_allow.proofs.table.AllowTable.compile.Goals as goal

pub sources-preserved : goal.sources-preserved
sources-preserved c =
    let row = c.in_ok-push_row.ensures in
    rows_more (may_of c.args.policy.now) c.count-count.result c.sources.source c.sources.sets.items row.0 c.push_row.new.sets.items c.row.result c.sources.invariant row.1 row.2 c.row.ensures
