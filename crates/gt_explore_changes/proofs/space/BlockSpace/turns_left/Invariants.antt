use Rattle.std.proofs.Common.{◌≡◌, filter, take}
use Rattle.gt_explore_changes.specs.Waiting.{may_end_within}
use Rattle.gt_explore_changes.proofs.space.BlockSpace.turns_left.Given as goal

abbrev pub invariant-turns : goal.invariant-turns
invariant-turns l = l.turns.items ≡ filter (may_end_within l.self.most l.self.scene l.state) (take l.turn-index l.all)
