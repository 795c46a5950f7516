use Rattle.gt_policy_check.proofs.EarlierLemmas.{target_is, within_by}
use Rattle.gt_policy_check.proofs.earlier.target_from.Goals as goal

pub returns-in-Some : goal.returns-in-Some
returns-in-Some c = let e = c.in-Some.ensures.lookup in
    target_is c.args.members.now c.args.allowed.now c.args.source c.in-Some.member.now c.first_target.result (within_by c.args.source _ e.0) e.1 c.first_target.ensures
