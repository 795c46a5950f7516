use Rattle.gt_explore_search.proofs.parts.PartIndex.find.Goals as goal

pub returns-then-is_part : goal.returns-then-is_part
returns-then-is_part g c = c.is_part.ensures c.if-is_part.true
