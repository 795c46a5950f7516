use Rattle.gt_explore_answers.specs.Outputs.{found_from}
use Rattle.gt_explore_by_choice.proofs.Answered.{told_by}
use Rattle.gt_explore_by_choice.proofs.answering.verdict_output.Goals as goal

pub returns-in-Some : goal.returns-in-Some
returns-in-Some c = λ source each.
    told_by source (found_from c.args.found.now) c.args.judgement.verdict c.args.judgement.shown_by c.in-Some.at c.counterexample.result c.in-Some.is (c.counterexample.ensures source each c.args.judgement.verdict)
