use Rattle.gt_policy_check.proofs.WarningLemmas.{columns_of, judged_fault, judged_sound}
use Rattle.gt_policy_check.proofs.checking.judge.Goals as goal

pub returns-in-Ok : goal.returns-in-Ok
returns-in-Ok c =
    judged_sound c.args.text.now c.in-Ok.ensures.ok.0 c.in-Ok.statements c.as_slice.result.now c.warnings.result c.as_slice.ensures c.in-Ok.ensures.ok.1 c.in-Ok.ensures.ok.2
    c.warnings.ensures.no_error c.warnings.ensures.nothing c.warnings.ensures.repeated (columns_of c.args.text.now c.as_bytes.result.now c.warnings.result c.as_bytes.ensures.value c.warnings.ensures.columns)

pub returns-in-Err : goal.returns-in-Err
returns-in-Err c =
    judged_fault c.in-Err.fault.line c.in-Err.fault.kind c.args.text.now c.errors.result c.in-Err.ensures.fault c.errors.ensures.shown c.errors.ensures.line c.errors.ensures.column c.errors.ensures.columns
