use Rattle.std.proofs.Common.{◌≡◌, ◌++◌, take}
use Rattle.std.specs.List.{flat_map}
use Rattle.gt_policy_questions.specs.Listing.{pair_line}
use Rattle.gt_policy_questions.proofs.listing.push_lines.Given as goal

abbrev pub invariant-pairs : goal.invariant-pairs
invariant-pairs g l =
    l.out.items ≡ l.initial.out.items ++ flat_map (pair_line (g.P.Allows.may l.policy) l.members l.perm) (take l.pair-index l.pairs)
