use Rattle.std.proofs.Common.{map}
use Rattle.gt_script.specs.RunContents.{run_contents}
use Rattle.gt_explore_verdict.specs.Formulas.{operation_asked}
use Rattle.gt_explore_answers.specs.Outputs.{found_from}
use Rattle.gt_explore_answers.proofs.Shown.{shown_so}
use Rattle.gt_explore_answers.proofs.json.ObjectWriter.answer.Goals as goal

pub returns-in-Texts : goal.returns-in-Texts
returns-in-Texts c = shown_so (run_contents c.args.self.now.script.now) c.args.limit (map operation_asked c.args.conditions.now) (found_from c.args.self.now.found.now) c.args.request _ c.all.result c.in-Texts.is c.all.ensures

pub returns-in-Decide : goal.returns-in-Decide
returns-in-Decide c = shown_so (run_contents c.args.self.now.script.now) c.args.limit (map operation_asked c.args.conditions.now) (found_from c.args.self.now.found.now) c.args.request _ c.decided.result c.in-Decide.is c.decided.ensures

pub returns-in-Has : goal.returns-in-Has
returns-in-Has c = shown_so (run_contents c.args.self.now.script.now) c.args.limit (map operation_asked c.args.conditions.now) (found_from c.args.self.now.found.now) c.args.request _ c.given.result c.in-Has.is c.given.ensures

pub returns-in-Witness : goal.returns-in-Witness
returns-in-Witness c = shown_so (run_contents c.args.self.now.script.now) c.args.limit (map operation_asked c.args.conditions.now) (found_from c.args.self.now.found.now) c.args.request _ c.witness.result c.in-Witness.is c.witness.ensures

pub returns-in-Witnesses : goal.returns-in-Witnesses
returns-in-Witnesses c = shown_so (run_contents c.args.self.now.script.now) c.args.limit (map operation_asked c.args.conditions.now) (found_from c.args.self.now.found.now) c.args.request _ c.all-in-Witnesses.result c.in-Witnesses.is c.all-in-Witnesses.ensures
