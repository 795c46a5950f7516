use Rattle.std.proofs.Common.{IfOk, subst, sym}
use Rattle.gt_script.specs.RunContents.{run_contents}
use Rattle.gt_explore_answers.specs.Outputs.{found_from}
use Rattle.gt_explore_answers.specs.declared.asking.ExploreFormat.{ExploreFormat}
use Rattle.gt_explore_tracing.specs.Answering.{IsTraceBy}
use Rattle.gt_explore_tracing.proofs.answering.trace_made.Goals as goal

pub returns-in-Json : goal.returns-in-Json
returns-in-Json c =
    subst (λ (f : ExploreFormat). IfOk c.objects_made.result (λ made. IsTraceBy (run_contents c.args.script.now) c.args.asked.now.states c.args.number f (found_from c.args.found.now) made.text.items made.verdict)) (sym c.in-Json.is) c.objects_made.ensures
