use Rattle.std.proofs.Common.{◌∙◌}
use Rattle.gt_neverallow.proofs.BreakingLemmas.{broken_of}
use Rattle.gt_neverallow.proofs.breaking.breaches_of.Goals as goal

pub returns : goal.returns
returns c = broken_of c.args.statements.now c.args.nevers.now c.as_slice.result.now _ (c.as_slice.ensures.value ∙ c.in_ok-members.ensures) c.in_ok-found.ensures
