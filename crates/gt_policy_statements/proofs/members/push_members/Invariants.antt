use Rattle.std.proofs.Common.{◌≡◌, ◌++◌, take}
use Rattle.std.specs.Option.{option_map}
use Rattle.std.specs.List.{flat_map}
use Rattle.gt_policy_statements.specs.Members.{members_in}
use Rattle.gt_policy_statements.proofs.members.push_members.Given as goal

abbrev pub invariant-statements : goal.invariant-statements
invariant-statements l = l.members.items ≡ l.initial.members.items ++ flat_map (λ x. members_in l.statements (option_map (λ a. a.now) l.asked) x.statement) (take l.statement-index l.statements)
