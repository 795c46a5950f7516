use Rattle.std.proofs.Common.{subst}
use Rattle.gt_audit.specs.Trails.{TrailState}
use Rattle.gt_run.specs.Logging.{LogsTrail}
use Rattle.gt_run.proofs.CallLemmas.{calls_of}
use Rattle.gt_run.proofs.serving.call_line.Goals as goal

pub returns-clause-calls : goal.returns-clause-calls
returns-clause-calls g c =
    calls_of g.P.Allows.may c.args.job.now c.args.at.line c.args.at.call.now _ _ _ _ _ _ _ _ _ _ c.in_ok-answer.was c.make_call-answer.ensures.made
    (subst (λ (x : TrailState). LogsTrail x c.args.logger.now c.log_next.new.logger) c.trail.ensures c.log_next.ensures)
    c.new-text.ensures.items c.in_ok-push_answer_line.ensures
