use Rattle.std.proofs.Common.{map}
use Rattle.gt_script.specs.RunContents.{run_contents}
use Rattle.gt_explore_verdict.specs.Formulas.{operation_asked}
use Rattle.gt_explore_answers.specs.Outputs.{found_from}
use Rattle.gt_explore_answers.proofs.Answered.{made_so}
use Rattle.gt_explore_answers.proofs.answering.answer_in_text.Goals as goal

pub returns-in-Texts : goal.returns-in-Texts
returns-in-Texts c = made_so (run_contents c.args.script.now) (map operation_asked c.args.conditions.now) (found_from c.args.found.now) c.args.request _ c.all_texts.result c.in-Texts.is c.all_texts.ensures

pub returns-in-Decide : goal.returns-in-Decide
returns-in-Decide c = made_so (run_contents c.args.script.now) (map operation_asked c.args.conditions.now) (found_from c.args.found.now) c.args.request _ c.claim_made.result c.in-Decide.is c.claim_made.ensures

pub returns-in-Has : goal.returns-in-Has
returns-in-Has c = made_so (run_contents c.args.script.now) (map operation_asked c.args.conditions.now) (found_from c.args.found.now) c.args.request _ c.number_of.result c.in-Has.is (c.number_of.ensures (run_contents c.args.script.now) c.requires.texts)

pub returns-in-Witness : goal.returns-in-Witness
returns-in-Witness c = made_so (run_contents c.args.script.now) (map operation_asked c.args.conditions.now) (found_from c.args.found.now) c.args.request _ c.witness.result c.in-Witness.is c.witness.ensures

pub returns-in-Witnesses : goal.returns-in-Witnesses
returns-in-Witnesses c = made_so (run_contents c.args.script.now) (map operation_asked c.args.conditions.now) (found_from c.args.found.now) c.args.request _ c.witnesses.result c.in-Witnesses.is c.witnesses.ensures
