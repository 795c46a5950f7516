use Rattle.std.proofs.Common.{◌≡◌, length}
use Rattle.gt_script.specs.Rounds.{Turning}
use Rattle.gt_script.proofs.stuck.ListPositions.turn.Given as goal

abbrev pub invariant-domains : goal.invariant-domains
invariant-domains l = Turning l.tasks l.domains l.self.places.items l.initial.self.told.items l.self.told.items l.i l.is_news × (length l.self.places.items ≡ length l.domains)
