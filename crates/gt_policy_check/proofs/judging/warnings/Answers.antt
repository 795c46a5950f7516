use Rattle.std.proofs.Common.{◌∙◌}
use Rattle.gt_policy_check.proofs.WarningLemmas.{nothing_of, repeated_of}
use Rattle.gt_findings.specs.Findings.{nothing_lines, repeat_lines}
use Rattle.gt_policy_check.proofs.judging.warnings.Goals as goal

pub returns-clause-no_error : goal.returns-clause-no_error
returns-clause-no_error c = c.in_ok-warn_empty.ensures.quiet.0 ∙ c.in_ok-found.ensures.no_error

pub returns-clause-nothing : goal.returns-clause-nothing
returns-clause-nothing c =
    c.in_ok-warn_empty.ensures.quiet.1
    ∙ nothing_of c.args.statements.now c.as_slice-2.result.now (nothing_lines c.in_ok-found.found.items) (c.as_slice-2.ensures.value ∙ c.in_ok-members.ensures) c.in_ok-found.ensures.nothing

pub returns-clause-repeated : goal.returns-clause-repeated
returns-clause-repeated c =
    c.in_ok-warn_empty.ensures.quiet.2
    ∙ repeated_of c.args.statements.now c.as_slice-2.result.now (repeat_lines c.in_ok-found.found.items) (c.as_slice-2.ensures.value ∙ c.in_ok-members.ensures) c.in_ok-found.ensures.repeated

pub returns-clause-columns : goal.returns-clause-columns
returns-clause-columns c = c.in_ok-warn_empty.ensures.columns.kept c.in_ok-found.ensures.columns
