use Rattle.gt_script.specs.RunScripts.{ReadsAsRun}
use Rattle.gt_explore_moments.specs.Exploring.{MomentExplored}
use Rattle.gt_program.proofs.Obeyed.{verdict_answer}
use Rattle.gt_program.proofs.moments.search_moment.Goals as goal

pub returns-in-Ok : goal.returns-in-Ok
returns-in-Ok g c = λ all e.
    verdict_answer (MomentExplored c.args.asked.now (ReadsAsRun all) (g.W.Write.contents c.args.out.now) (g.W.Write.contents c.explore_moment.new.writer)) _ _ c.of_verdict.ensures (c.in-Ok.ensures all e)

pub returns-in-Err : goal.returns-in-Err
returns-in-Err g c = λ all e. (c.in-Err.fault, c.moment_failure.ensures, c.in-Err.ensures all e)
