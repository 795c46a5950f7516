use Rattle.std.proofs.Common.{map}
use Rattle.gt_explore_answers.specs.Outputs.{found_from}
use Rattle.gt_explore_by_choice.proofs.Answered.{made_so}
use Rattle.gt_explore_verdict.specs.Formulas.{operation_asked}
use Rattle.gt_explore_by_choice.proofs.answering.answer.Goals as goal

pub returns-in-Decide : goal.returns-in-Decide
returns-in-Decide c = λ source each are. made_so source (map operation_asked c.args.conditions.now) (found_from c.args.found.now) c.args.request _ c.claim_made.result c.in-Decide.is (c.claim_made.ensures source each are)

pub returns-in-Has : goal.returns-in-Has
returns-in-Has c = λ source each are. made_so source (map operation_asked c.args.conditions.now) (found_from c.args.found.now) c.args.request _ c.number_of.result c.in-Has.is (c.number_of.ensures source are)

pub returns-in-Witness : goal.returns-in-Witness
returns-in-Witness c = λ source each are. made_so source (map operation_asked c.args.conditions.now) (found_from c.args.found.now) c.args.request _ c.witness.result c.in-Witness.is (c.witness.ensures source each)
