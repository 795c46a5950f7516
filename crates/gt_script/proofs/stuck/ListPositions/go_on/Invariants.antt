use Rattle.std.proofs.Common.{◌≡◌}
use Rattle.gt_script.specs.Rounds.{WayTo}
use Rattle.gt_script.proofs.stuck.ListPositions.go_on.Given as goal

abbrev pub invariant-tasks : goal.invariant-tasks
invariant-tasks l = WayTo l.tasks l.dom l.initial.self.told.items l.self.told.items l.place l.is_news × (l.self.places.items ≡ l.initial.self.places.items)
