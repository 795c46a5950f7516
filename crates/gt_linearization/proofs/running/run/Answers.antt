use Rattle.gt_script.specs.RunScripts.{ReadsAsRun}
use Rattle.gt_linearization.proofs.RunTexts.{input-so}
use Rattle.gt_linearization.proofs.running.run.Goals as goal

pub returns-clause-text : goal.returns-clause-text
returns-clause-text g c = input-so (g.G.Gate.refuses c.args.gate.now) _ _ ReadsAsRun _ _ _ c.run.ensures.text
