use Rattle.std.proofs.Common.{◌≡◌, take}
use Rattle.gt_policy_questions.specs.Listing.{pairs_between}
use Rattle.gt_policy_questions.proofs.listing.pairs_between.Given as goal

abbrev pub invariant-sources : goal.invariant-sources
invariant-sources l = l.pairs.items ≡ pairs_between (take l.source-index l.sources) l.targets
