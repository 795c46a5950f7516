use Rattle.std.proofs.Common.{◌∙◌}
use Rattle.gt_script.specs.RunContents.{run_contents}
use Rattle.gt_explore_by_choice.proofs.Explored.{made_so_named, unmade_so}
use Rattle.gt_explore_by_choice.proofs.making.made_numbered.Goals as goal

pub returns-in-Ok-made_read : goal.returns-in-Ok-made_read
returns-in-Ok-made_read g c = λ source named are reads asked is.
    made_so_named source named c.in-Ok.text.now c.args.asked.now.request (run_contents c.args.base.now) c.in-Ok-made_read.made reads asked (c.in-Ok.ensures.text.0 ∙ is) (c.in-Ok-made_read.ensures source are)

pub returns-in-Err : goal.returns-in-Err
returns-in-Err g c = λ source named are reads asked is.
    unmade_so source named c.in-Ok.text.now c.args.asked.now.request (run_contents c.args.base.now) c.in-Err.fault reads asked (c.in-Ok.ensures.text.0 ∙ is) (c.in-Err.ensures source are)
