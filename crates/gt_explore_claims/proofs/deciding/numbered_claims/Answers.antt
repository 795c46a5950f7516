use Rattle.std.proofs.Common.{arith}
use Rattle.std.specs.Str.Lines.{lines as lines_in}
use Rattle.gt_explore_claims.proofs.Numbered.{failing}
use Rattle.gt_explore_claims.proofs.deciding.numbered_claims.Goals as goal

pub returns-in-Err-clause-fault : goal.returns-in-Err-clause-fault
returns-in-Err-clause-fault c = failing (lines_in c.args.source.now) c.args.claims.now c.claims.claim-index _ c.in-Err.fault (omega arith) c.in-Err.ensures.fault
