use Rattle.gt_core.proofs.AlikeRuns.{does-alike, alike-grows}
use Rattle.gt_core.proofs.laws.every_alike_event_does_one_thing.Goals as goal

pub returns : goal.returns
returns c s g h e f one other alike same j k m n = let x = does-alike s g h e f one other alike same j k m n in
    (x, alike-grows s g h e f one other alike j k m n x)
