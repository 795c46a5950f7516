use Rattle.gt_words.specs.Laws.{seat_at}
use Rattle.gt_words.proofs.laws.every_seat_has_its_position.Goals as goal

pub returns : goal.returns
returns c = seat_at
