use Rattle.gt_core.proofs.Pins.{shown-alike}
use Rattle.gt_core.proofs.laws.every_alike_run_shows_one_thing.Goals as goal

pub returns : goal.returns
returns c s g h dom r alike = shown-alike s g h dom r alike
