use Rattle.std.proofs.Common.{take}
use Rattle.gt_neverallow.specs.Breaking.{broken_by, AddsBreaches}
use Rattle.gt_neverallow.proofs.breaking.push_broken.Given as goal

abbrev pub invariant-nevers : goal.invariant-nevers
invariant-nevers l = AddsBreaches l.members (broken_by l.members (take l.never-index l.nevers) l.stated) l.initial.found.items l.found.items
