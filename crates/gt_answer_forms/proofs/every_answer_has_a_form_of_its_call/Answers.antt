use Rattle.gt_answer_forms.proofs.AnswerForms.{has_form_of_its_call}
use Rattle.gt_answer_forms.proofs.every_answer_has_a_form_of_its_call.Goals as goal

pub returns : goal.returns
returns c = has_form_of_its_call
