use Rattle.std.proofs.lemmas.Result.{IfOk-weaker}
use Rattle.gt_policy.specs.Members.{has_attribute}
use Rattle.gt_policy.proofs.RuleLemmas.{rules_same}
use Rattle.gt_policy.proofs.rules.rules_of.Goals as goal

pub returns : goal.returns
returns c =
    IfOk-weaker c.rules.result _ _
    (λ v h s t perm. rules_same (has_attribute c.new-members.result) c.as_slice.result.now c.args.draft.now.given c.as_slice-2.result.now c.args.draft.now.rules s t perm _ c.new-members.ensures c.as_slice.ensures c.as_slice-2.ensures (h s t perm))
    c.rules.ensures
