use Rattle.std.proofs.Common.{arith}
use Rattle.std.proofs.lemmas.List.{same_lists}
use Rattle.gt_explore_state.proofs.same.same_counts.Goals as goal

pub returns : goal.returns
returns c = λ is. same_lists c.args.other.now c.args.one.now (omega arith) (λ k d below. c.rows.invariant k d (omega arith))
