use Rattle.std.proofs.Common.{◌≡◌, ◌++◌, take}
use Rattle.std.specs.List.{flat_map}
use Rattle.gt_policy_statements.specs.Members.{names_given}
use Rattle.gt_policy_statements.proofs.members.push_names.Given as goal

abbrev pub invariant-statements : goal.invariant-statements
invariant-statements l = l.names ≡ l.initial.names ++ flat_map (λ x. names_given l.name x.statement) (take l.statement-index l.statements)
