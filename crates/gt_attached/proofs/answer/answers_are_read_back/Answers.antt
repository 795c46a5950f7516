use Rattle.gt_attached.proofs.ReadBack.{read_back}
use Rattle.gt_attached.proofs.answer.answers_are_read_back.Goals as goal

pub returns : goal.returns
returns c = read_back
