use Rattle.std.proofs.Common.{◌-◌}
use Rattle.gt_findings.proofs.ColumnLemmas.{bounds_ordered, bounds_within, end_of_first, end_of_read}
use Rattle.gt_policy_check.proofs.misfits.end_before.Goals as goal

pub returns-in-Some : goal.returns-in-Some
returns-in-Some c = let found = c.in-Some.ensures.lookup.3 in let token = c.in-Some.token.now in
    end_of_read c.args.bytes.now c.args.line.now c.deref.result.now (c.args.misfit - 1) token c.column_of.result c.requires c.deref.ensures.value found.0 (found.1 token) c.column_of.ensures

pub returns : goal.returns
returns c = let text = c.args.bytes.now in let line = c.args.line.now in
    end_of_first text c.bytes_of.result.now line c.first_column.result c.requires
    (c.bytes_of.ensures (bounds_ordered text line.number line.span c.requires.bounds) (bounds_within text line.number line.span c.requires.bounds))
    c.first_column.ensures
