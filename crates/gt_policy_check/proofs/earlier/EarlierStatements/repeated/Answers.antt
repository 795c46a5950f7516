use Rattle.gt_policy_check.proofs.EarlierLemmas.{when_some}
use Rattle.gt_policy_check.proofs.KnownLemmas.{repeated_is}
use Rattle.gt_policy_check.proofs.earlier.EarlierStatements.repeated.Goals as goal

pub returns-in-Some-clause-is : goal.returns-in-Some-clause-is
returns-in-Some-clause-is c =
    repeated_is c.args.members.now c.args.before.now c.args.statement.now c.args.self.now c.in-Some.triple c.of_type-of_type.result.now c.as_slice-of_many.result.now
    c.first_among.result c.first_among-in-Some.result c.least.result c.requires.lists (when_some _ _ c.args.triple c.in-Some.triple c.in-Some.is c.requires.granted) c.of_type-of_type.ensures c.as_slice-of_many.ensures.value
    c.first_among.ensures c.first_among-in-Some.ensures c.least.ensures.some
