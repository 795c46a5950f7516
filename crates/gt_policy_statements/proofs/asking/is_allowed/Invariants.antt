use Rattle.std.proofs.Common.{◌≡◌, drop}
use Rattle.std.specs.List.{list_any}
use Rattle.std.specs.Option.{option_map}
use Rattle.gt_policy_statements.specs.Granting.{gives_of}
use Rattle.gt_policy_statements.proofs.asking.is_allowed.Given as goal

abbrev pub invariant-statements : goal.invariant-statements
invariant-statements l = list_any (λ x. gives_of (option_map (λ p. p.now) l.asked.perm) l.asked.sources.now l.asked.targets.now x.statement) l.statements ≡ list_any (λ x. gives_of (option_map (λ p. p.now) l.asked.perm) l.asked.sources.now l.asked.targets.now x.statement) (drop l.stated-index l.statements)
