use Rattle.std.proofs.Common.{◌≡◌, ◌++◌, take, map}
use Rattle.gt_policy_statements.proofs.members.push_mentions.Given as goal

abbrev pub invariant-mentions : goal.invariant-mentions
invariant-mentions l = l.names ≡ l.initial.names ++ map (λ m. m.name) (take l.mention-index l.mentions)
