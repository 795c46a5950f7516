use Rattle.std.proofs.Common.{map, take}
use Rattle.std.specs.Str.Lines.{lines as lines_in}
use Rattle.gt_explore_precedence.specs.Pairs.{ArePairs}
use Rattle.gt_explore_precedence.proofs.pairs.pairs_of.Given as goal

abbrev pub invariant-parts : goal.invariant-parts
invariant-parts l = ArePairs (lines_in l.source) l.script.tasks (map (λ part. part.now) (take l.part-index l.parts)) l.pairs.items
