use Rattle.std.proofs.Common.{◌≡◌, ◌++◌, take}
use Rattle.gt_policy_questions.specs.Listing.{pairs_of}
use Rattle.gt_policy_questions.proofs.listing.push_pairs.Given as goal

abbrev pub invariant-targets : goal.invariant-targets
invariant-targets l = l.pairs.items ≡ l.initial.pairs.items ++ pairs_of l.source (take l.target-index l.targets)
