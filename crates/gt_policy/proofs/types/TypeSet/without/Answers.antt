use Rattle.std.proofs.Common.{rules}
use Rattle.gt_policy.proofs.TypeSetLemmas.{holds-without}
use Rattle.gt_policy.proofs.types.TypeSet.without.Goals as goal

pub returns : goal.returns
returns c = λ n. holds-without c.args.self.low c.args.self.high c.args.other.low c.args.other.high n (search rules) (search rules)
