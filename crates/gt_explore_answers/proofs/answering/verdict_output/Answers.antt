use Rattle.gt_script.specs.RunContents.{run_contents}
use Rattle.gt_explore_answers.specs.Outputs.{found_from}
use Rattle.gt_explore_answers.proofs.Answered.{told_by}
use Rattle.gt_explore_answers.proofs.answering.verdict_output.Goals as goal

pub returns-in-Some : goal.returns-in-Some
returns-in-Some c = told_by (run_contents c.args.script.now) (found_from c.args.found.now) c.args.judgement.verdict c.args.judgement.shown_by c.in-Some.at c.counterexample.result c.in-Some.is c.counterexample.ensures
