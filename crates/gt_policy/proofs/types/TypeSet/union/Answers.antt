use Rattle.gt_policy.proofs.TypeSetLemmas.{holds-union}
use Rattle.gt_policy.proofs.types.TypeSet.union.Goals as goal

pub returns : goal.returns
returns c = holds-union c.args.self.low c.args.self.high c.args.other.low c.args.other.high
