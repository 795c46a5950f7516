use Rattle.std.proofs.Common.{◌≡◌, take}
use Rattle.std.specs.Prelude.{filter}
use Rattle.gt_policy_questions.specs.Listing.{is_pair_allowed}
use Rattle.gt_policy_questions.proofs.listing.allowed_pairs.Given as goal

abbrev pub invariant-pairs : goal.invariant-pairs
invariant-pairs g l = l.allowed.items ≡ filter (is_pair_allowed (g.P.Allows.may l.policy) l.perm) (take l.pair-index l.pairs)
