use Rattle.std.proofs.Common.{take, []}
use Rattle.std.specs.List.{flat_map}
use Rattle.gt_neverallow.specs.Breaking.{broken_by, AddsBreaches}
use Rattle.gt_neverallow.proofs.breaking.all_broken.Given as goal

abbrev pub invariant-statements : goal.invariant-statements
invariant-statements l = AddsBreaches l.members (flat_map (λ x. broken_by l.members l.nevers x) (take l.stated-index l.statements)) [] l.found.items
