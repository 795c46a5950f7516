use Rattle.gt_script.proofs.OneLemmas.{tells_one}
use Rattle.gt_script.specs.declared.command.ScriptCommand.TheVariants.{Play}
use Rattle.gt_script.proofs.laws.every_text_has_one_meaning.Goals as goal

pub returns : goal.returns
returns c = tells_one Play c.one_meaning.ensures
