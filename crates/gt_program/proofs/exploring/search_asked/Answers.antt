use Rattle.gt_file_commands.specs.Laws.{worked}
use Rattle.gt_program.specs.Obeying.{Searches}
use Rattle.gt_program.proofs.exploring.search_asked.Goals as goal

pub returns : goal.returns
returns g c = worked (Searches c.args.asked.now) _ _ _ _ _ c.search_on-ending.result _ c.search_on-ending.ensures c.finish.ensures
