use Rattle.gt_separation.proofs.Separate.{low-parts-are-legal}
use Rattle.gt_separation.proofs.laws.low_parts_are_legal.Goals as goal

pub returns : goal.returns
returns c = low-parts-are-legal
