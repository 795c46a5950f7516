use Rattle.std.proofs.Common.{◌≡◌, take}
use Rattle.gt_explore_racing.proofs.making.are_same.Given as goal

abbrev pub invariant-domains : goal.invariant-domains
invariant-domains l = take l.at l.domains ≡ take l.at l.others
