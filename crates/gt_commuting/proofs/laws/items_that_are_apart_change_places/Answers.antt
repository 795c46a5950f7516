use Rattle.gt_commuting.proofs.Swapping.{swapped}
use Rattle.gt_commuting.proofs.laws.items_that_are_apart_change_places.Goals as goal

pub returns : goal.returns
returns c s h i j apart first second = swapped s h i j apart first second
