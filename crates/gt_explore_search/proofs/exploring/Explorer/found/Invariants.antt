use Rattle.std.proofs.Common.{◌≡◌, length}
use Rattle.gt_explore_search.proofs.Trying.{HaveTexts}
use Rattle.gt_explore_search.proofs.exploring.Explorer.found.Given as goal

abbrev pub invariant-ends : goal.invariant-ends
invariant-ends g l = record {
  many : length l.orders.items ≡ l.end-index;
  each : HaveTexts l.self.suffixes l.domains l.lists l.orders.items l.end-index;
}
