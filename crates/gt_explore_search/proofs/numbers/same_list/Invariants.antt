use Rattle.std.proofs.Common.{◌≡◌, take}
use Rattle.gt_explore_search.proofs.numbers.same_list.Given as goal

abbrev pub invariant-items : goal.invariant-items
invariant-items l = take l.at l.one ≡ take l.at l.other
