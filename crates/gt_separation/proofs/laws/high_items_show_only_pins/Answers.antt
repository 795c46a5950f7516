use Rattle.gt_separation.proofs.Apart.{shows-only-pins}
use Rattle.gt_separation.proofs.laws.high_items_show_only_pins.Goals as goal

pub returns : goal.returns
returns c = shows-only-pins
