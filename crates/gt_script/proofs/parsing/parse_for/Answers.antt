use Rattle.std.proofs.Common.{Err}
use Rattle.gt_script.specs.declared.faults.ScriptError.TheVariants as script_errors
use Rattle.gt_script.proofs.FaultLemmas.{answers-script, answers-fault, answers-all, answers-unread, answers-text}
use Rattle.gt_script.proofs.parsing.parse_for.Goals as goal

pub returns-in-Ok-clause-script : goal.returns-in-Ok-clause-script
returns-in-Ok-clause-script c = answers-text c.args.command c.args.bytes.now _ c.of_text.result c.in-Ok.ensures.text c.in-Ok.ensures.few c.in-Ok.ensures.utf8 c.of_text.ensures

pub returns-in-Ok-clause-holds : goal.returns-in-Ok-clause-holds
returns-in-Ok-clause-holds c =
    answers-script c.args.command c.args.bytes.now c.of_text.result (answers-text c.args.command c.args.bytes.now _ c.of_text.result c.in-Ok.ensures.text c.in-Ok.ensures.few c.in-Ok.ensures.utf8 c.of_text.ensures)

pub returns-in-Ok-clause-fault : goal.returns-in-Ok-clause-fault
returns-in-Ok-clause-fault c =
    answers-fault c.args.command c.args.bytes.now c.of_text.result (answers-text c.args.command c.args.bytes.now _ c.of_text.result c.in-Ok.ensures.text c.in-Ok.ensures.few c.in-Ok.ensures.utf8 c.of_text.ensures)

pub returns-in-Ok-clause-beginning : goal.returns-in-Ok-clause-beginning
returns-in-Ok-clause-beginning c = λ all e.
    answers-all c.args.command c.args.bytes.now all c.of_text.result e (answers-text c.args.command c.args.bytes.now _ c.of_text.result c.in-Ok.ensures.text c.in-Ok.ensures.few c.in-Ok.ensures.utf8 c.of_text.ensures)

pub returns-in-Err-clause-script : goal.returns-in-Err-clause-script
returns-in-Err-clause-script c = answers-unread c.args.command c.args.bytes.now c.in-Err.fault c.in-Err.ensures.fault

pub returns-in-Err-clause-fault : goal.returns-in-Err-clause-fault
returns-in-Err-clause-fault c = answers-fault c.args.command c.args.bytes.now (Err (script_errors.Fault c.in-Err.fault)) (answers-unread c.args.command c.args.bytes.now c.in-Err.fault c.in-Err.ensures.fault)

pub returns-in-Err-clause-beginning : goal.returns-in-Err-clause-beginning
returns-in-Err-clause-beginning c = λ all e.
    answers-all c.args.command c.args.bytes.now all (Err (script_errors.Fault c.in-Err.fault)) e (answers-unread c.args.command c.args.bytes.now c.in-Err.fault c.in-Err.ensures.fault)
