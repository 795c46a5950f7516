use Rattle.gt_precedence.proofs.Several.{complete-all, sound-all}
use Rattle.gt_precedence.proofs.laws.all_precedences_are_exact.Goals as goal

pub returns-clause-sound : goal.returns-clause-sound
returns-clause-sound c = sound-all

pub returns-clause-complete : goal.returns-clause-complete
returns-clause-complete c = complete-all
