use Rattle.std.proofs.Common.{◌≡◌, []}
use Rattle.gt_findings.specs.Findings.{error_lines}
use Rattle.gt_check_command.specs.Judging.{IsAtLater, JudgesScript, for_play, for_run}
use Rattle.gt_check_command.proofs.JudgeLemmas.{judged_faulty, of_found}
use Rattle.gt_check_command.proofs.script_findings.judging.judge.Goals as goal

-- a script for `play`
pub returns-in-Ok : goal.returns-in-Ok
returns-in-Ok c all given = of_found (λ v. error_lines v.items ≡ []) (λ v. JudgesScript all v.items) (λ v none. for_play _ v.items (c.in-Ok.ensures.beginning all given) none) c.warnings.result c.warnings.ensures

-- a script for `run`
pub returns-in-Ok-parse_run : goal.returns-in-Ok-parse_run
returns-in-Ok-parse_run c all given = of_found (λ v. error_lines v.items ≡ []) (λ v. JudgesScript all v.items) (λ v none. for_run _ v.items (c.in-Ok-parse_run.ensures.beginning all given) none) c.warnings-in-Ok-parse_run.result c.warnings-in-Ok-parse_run.ensures

-- for neither
pub returns : goal.returns
returns c all given = of_found (λ v. IsAtLater c.in-Err.error c.in-Err-parse_run.run' v.items) (λ v. JudgesScript all v.items) (λ v at. judged_faulty c.in-Err.error c.in-Err-parse_run.run' all v.items (c.in-Err.ensures.beginning all given) (c.in-Err-parse_run.ensures.beginning all given) at) c.errors.result c.errors.ensures
