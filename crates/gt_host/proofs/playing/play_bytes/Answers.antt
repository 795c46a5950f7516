use Rattle.gt_script.specs.Contents.{contents_of}
use Rattle.gt_script.specs.Script.{ReadsAsScript}
use Rattle.gt_text.specs.Laws.{keeps_same}
use Rattle.gt_host.proofs.PlayedLemmas.{played_nothing, played_run}
use Rattle.gt_host.proofs.playing.play_bytes.Goals as goal

pub returns-in-Ok : goal.returns-in-Ok
returns-in-Ok g c = λ all e.
    played_run (ReadsAsScript all) c.args.audit (contents_of c.in-Ok.script) c.run_script.result _ _ _ (c.in-Ok.ensures.beginning all e) c.run_script.ensures.whole c.run_script.ensures.beginning
    (c.every_beginning_is_of_the_text.ensures (contents_of c.in-Ok.script) c.args.audit _ _) c.as_play.ensures

pub returns-in-Err : goal.returns-in-Err
returns-in-Err g c = λ all e.
    played_nothing (ReadsAsScript all) c.args.audit c.in-Err.error _ _ _ (c.in-Err.ensures.beginning all e) (keeps_same _) c.from.ensures
