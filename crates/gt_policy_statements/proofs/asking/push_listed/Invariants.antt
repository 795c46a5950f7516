use Rattle.std.proofs.Common.{◌≡◌, ◌++◌, take}
use Rattle.std.specs.Option.{option_map}
use Rattle.gt_policy_statements.specs.Why.{entries_if, is_listed_under}
use Rattle.gt_policy_statements.proofs.asking.push_listed.Given as goal

abbrev pub invariant-statements : goal.invariant-statements
invariant-statements l = l.out.items ≡ l.initial.out.items ++ entries_if (is_listed_under l.answer (option_map (λ p. p.now) l.asked.perm) l.asked.sources.now l.asked.targets.now) l.file l.asked.sources.now l.asked.targets.now (take l.stated-index l.statements)
