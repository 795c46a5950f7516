use Rattle.gt_live.proofs.Marks.{marked-spells}
use Rattle.gt_live.proofs.laws.marks_change_no_meaning.Goals as goal

pub returns : goal.returns
returns c = marked-spells
