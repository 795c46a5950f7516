use Rattle.gt_explore_answers.specs.Outputs.{found_from}
use Rattle.gt_explore_by_choice.proofs.Answered.{claim_by}
use Rattle.gt_explore_by_choice.proofs.answering.claim_output.Goals as goal

pub returns-in-Never : goal.returns-in-Never
returns-in-Never c = λ source each. claim_by source c.args.claim _ (found_from c.args.found.now) c.args.met.now c.args.judgement c.verdict_output.result c.in-Never.is (c.verdict_output.ensures source each)

pub returns-in-Always : goal.returns-in-Always
returns-in-Always c = λ source each. claim_by source c.args.claim _ (found_from c.args.found.now) c.args.met.now c.args.judgement c.verdict_output-in-Always.result c.in-Always.is (c.verdict_output-in-Always.ensures source each)
