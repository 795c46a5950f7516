use Rattle.std.proofs.Common.{◌≤◌, ◌<◌, length, All}
use Rattle.gt_roster.proofs.Steps.{HasLast}
use Rattle.gt_roster.proofs.positions.places_of.Given as goal

abbrev pub invariant-places : goal.invariant-places
invariant-places l = record {
  in_range : l.at ≤ length l.ids;
  inside : All (λ x. x.0 < length l.table.items) l.ids;
  last : HasLast l.ids l.at l.table.items;
}

abbrev pub decreases-places : goal.decreases-places
decreases-places l = l.at
