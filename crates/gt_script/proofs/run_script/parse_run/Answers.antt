use Rattle.gt_script.specs.Contents.{contents_of}
use Rattle.gt_script.proofs.RunLemmas.{run-tells, fault-tells, tasks-known, tasks-numbered, head-configures, flags-numbered}
use Rattle.gt_script.proofs.run_script.parse_run.Goals as goal

pub of_script-requires-clause-numbered : goal.of_script-requires-clause-numbered
of_script-requires-clause-numbered c = tasks-numbered _ (contents_of c.in-Ok.script) c.in-Ok.ensures.holds

pub of_script-requires-clause-known : goal.of_script-requires-clause-known
of_script-requires-clause-known c = tasks-known _ (contents_of c.in-Ok.script) c.in-Ok.ensures.holds

pub returns-in-Ok-clause-script : goal.returns-in-Ok-clause-script
returns-in-Ok-clause-script c = run-tells c.args.bytes.now (contents_of c.in-Ok.script) c.of_script.result c.in-Ok.ensures.script c.of_script.ensures

pub returns-in-Ok-clause-holds : goal.returns-in-Ok-clause-holds
returns-in-Ok-clause-holds c = head-configures _ (contents_of c.in-Ok.script) c.of_script.result c.in-Ok.ensures.holds c.of_script.ensures

pub returns-in-Ok-clause-numbered : goal.returns-in-Ok-clause-numbered
returns-in-Ok-clause-numbered c = flags-numbered _ (contents_of c.in-Ok.script) c.of_script.result c.in-Ok.ensures.holds c.of_script.ensures

pub returns-in-Ok-clause-beginning : goal.returns-in-Ok-clause-beginning
returns-in-Ok-clause-beginning c = λ all e. run-tells all (contents_of c.in-Ok.script) c.of_script.result (c.in-Ok.ensures.beginning all e) c.of_script.ensures

pub returns-in-Err-clause-script : goal.returns-in-Err-clause-script
returns-in-Err-clause-script c = fault-tells c.args.bytes.now c.in-Err.error c.in-Err.ensures.script

pub returns-in-Err-clause-beginning : goal.returns-in-Err-clause-beginning
returns-in-Err-clause-beginning c = λ all e. fault-tells all c.in-Err.error (c.in-Err.ensures.beginning all e)
