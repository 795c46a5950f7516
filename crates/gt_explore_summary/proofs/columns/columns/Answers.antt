use Rattle.std.proofs.Common.{arith, map}
use Rattle.std.proofs.lemmas.Grind.{common_steps}
use Rattle.std.proofs.lemmas.List.FromFn.{map-range_with_len_more}
use Rattle.gt_explore_summary.specs.Columns.{column_at, filled_lines}
use Rattle.gt_explore_summary.proofs.columns.columns.Goals as goal

pub places-preserved : goal.places-preserved
places-preserved c =
    let next = map-range_with_len_more (column_at (map filled_lines c.args.texts.now)) 0 c.places.at c.places.at (omega arith) in
    grind (arith, common_steps, next)
