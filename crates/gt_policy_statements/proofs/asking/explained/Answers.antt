use Rattle.std.proofs.Common.{◌∙◌}
use Rattle.gt_policy_statements.proofs.GrantLemmas.{explained_so}
use Rattle.gt_policy_statements.proofs.asking.explained.Goals as goal

pub returns : goal.returns
returns c =
    explained_so c.args.file.now c.args.statements.now c.args.question.now c.as_slice.result.now c.as_slice-2.result.now c.answered.result
    (c.as_slice.ensures.value ∙ c.in_ok-sources.ensures) (c.as_slice-2.ensures.value ∙ c.in_ok-targets.ensures) c.answered.ensures.answer c.answered.ensures.lines
