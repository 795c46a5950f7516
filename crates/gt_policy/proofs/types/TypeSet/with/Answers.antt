use Rattle.std.proofs.Common.{arith}
use Rattle.gt_policy.proofs.TypeSetLemmas.{holds-with_low, holds-with_high}
use Rattle.gt_policy.proofs.types.TypeSet.with.Goals as goal

pub returns-then-id-lt128 : goal.returns-then-id-lt128
returns-then-id-lt128 c = λ n. holds-with_low c.args.self.low c.args.self.high c.args.id n (omega arith)

pub returns-else-id-lt128 : goal.returns-else-id-lt128
returns-else-id-lt128 c = λ n. holds-with_high c.args.self.low c.args.self.high c.args.id n (omega arith) (omega arith)
