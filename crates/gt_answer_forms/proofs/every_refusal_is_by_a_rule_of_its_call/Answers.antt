use Rattle.gt_answer_forms.proofs.Refusals.{refused_by_its_rules}
use Rattle.gt_answer_forms.proofs.every_refusal_is_by_a_rule_of_its_call.Goals as goal

pub returns : goal.returns
returns c = refused_by_its_rules
