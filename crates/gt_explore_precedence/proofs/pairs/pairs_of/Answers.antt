use Rattle.std.specs.Str.Lines.{lines as lines_in}
use Rattle.gt_explore_precedence.proofs.PairLemmas.{part-fault-at}
use Rattle.gt_explore_precedence.proofs.pairs.pairs_of.Goals as goal

pub returns-in-Err-clause-fault : goal.returns-in-Err-clause-fault
returns-in-Err-clause-fault c = part-fault-at (lines_in c.args.source.now) c.args.script.now.tasks c.args.parts.now c.parts.part-index _ c.parts.pairs.items c.in-Err.fault c.parts-test.true c.parts.invariant c.in-Err.ensures.fault
