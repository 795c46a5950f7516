use Rattle.gt_findings.proofs.ColumnLemmas.{bounds_ordered, bounds_within, column_of_bounds}
use Rattle.gt_findings.proofs.places.column_at.Goals as goal

pub returns : goal.returns
returns c = let text = c.args.bytes.now in let line = c.args.line.now in
    column_of_bounds text c.args.word.now c.bytes_of-text.result.now line.number line.span c.column_near.result c.requires.bounds
    (c.bytes_of-text.ensures (bounds_ordered text line.number line.span c.requires.bounds) (bounds_within text line.number line.span c.requires.bounds))
    c.column_near.ensures
