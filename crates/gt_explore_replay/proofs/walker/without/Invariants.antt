use Rattle.std.proofs.Common.{◌≡◌, take}
use Rattle.gt_explore_replay.specs.Orders.{handles_without}
use Rattle.gt_explore_replay.proofs.walker.without.Given as goal

abbrev pub invariant-held : goal.invariant-held
invariant-held l = l.left.items ≡ handles_without l.handle (take l.other-index l.held)
