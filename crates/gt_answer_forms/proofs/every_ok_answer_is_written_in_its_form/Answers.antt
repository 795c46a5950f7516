use Rattle.gt_answer_forms.proofs.AnswerWords.{written_in_its_form}
use Rattle.gt_answer_forms.proofs.every_ok_answer_is_written_in_its_form.Goals as goal

pub returns : goal.returns
returns c = written_in_its_form
