use Rattle.std.proofs.Common.{◌≡◌}
use Rattle.gt_explore_changes.specs.Parts.{joined_in, none_joined, with_block_parts}
use Rattle.gt_explore_changes.proofs.parts.JoinedParts.of.Given as goal

abbrev pub invariant-parts : goal.invariant-parts
invariant-parts l = joined_in l.joined ≡ with_block_parts none_joined l.yielded
