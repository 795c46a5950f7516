use Rattle.gt_precedence.proofs.Places.{has-places, unique}
use Rattle.gt_precedence.proofs.laws.each_call_has_its_places.Goals as goal

pub returns-clause-places : goal.returns-clause-places
returns-clause-places c = has-places

pub returns-clause-unique : goal.returns-clause-unique
returns-clause-unique c = unique
