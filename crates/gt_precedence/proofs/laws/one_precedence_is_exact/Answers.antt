use Rattle.gt_precedence.proofs.Several.{complete-one, sound}
use Rattle.gt_precedence.proofs.laws.one_precedence_is_exact.Goals as goal

pub returns-clause-sound : goal.returns-clause-sound
returns-clause-sound c = sound

pub returns-clause-complete : goal.returns-clause-complete
returns-clause-complete c = complete-one
