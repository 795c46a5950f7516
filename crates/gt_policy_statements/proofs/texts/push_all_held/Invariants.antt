use Rattle.std.proofs.Common.{◌≡◌, ◌++◌, take}
use Rattle.gt_policy_statements.specs.Texts.{all_held_text}
use Rattle.gt_policy_statements.proofs.texts.push_all_held.Given as goal

abbrev pub invariant-members : goal.invariant-members
invariant-members l = l.out.items ≡ l.initial.out.items ++ all_held_text l.items (take l.member-index l.members)
