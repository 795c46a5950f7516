use Rattle.gt_explore_by_choice.specs.Exploring.{ExploresByChoices}
use Rattle.gt_program.proofs.Obeyed.{verdict_answer}
use Rattle.gt_program.proofs.choosing.search_one.Goals as goal

pub returns-in-Ok : goal.returns-in-Ok
returns-in-Ok g c =
    verdict_answer (ExploresByChoices c.args.source.now c.args.options.now (g.W.Write.contents c.args.out.now) (g.W.Write.contents c.explore_choices.new.writer)) _ _ c.of_verdict.ensures c.in-Ok.ensures

pub returns-in-Err : goal.returns-in-Err
returns-in-Err g c = (c.in-Err.fault, c.failed.ensures, c.in-Err.ensures)
