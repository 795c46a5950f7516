use Rattle.std.proofs.Common.{◌≡◌, drop}
use Rattle.std.specs.Prelude.{find}
use Rattle.gt_policy_statements.specs.Granting.{gives_one}
use Rattle.gt_policy_questions.proofs.flows.lines.granting_line.Given as goal

-- the first one is among those that are left
abbrev pub invariant-statements : goal.invariant-statements
invariant-statements l =
    find (λ x. gives_one l.perm l.from l.to x.statement) l.statements
    ≡ find (λ x. gives_one l.perm l.from l.to x.statement) (drop l.stated-index l.statements)
