use Rattle.std.proofs.lemmas.Result.{IfOk-weaker}
use Rattle.gt_script.specs.RunContents.{run_contents}
use Rattle.gt_explore_moves.proofs.Ways.{finds-all}
use Rattle.gt_explore_moves.proofs.partial.search_within.Goals as goal

pub returns : goal.returns
returns g c = λ numbered.
    IfOk-weaker c.search_within.result _ _
    (λ partial all whole. finds-all c.in_ok-scene.scene (run_contents c.args.script.now) partial.found (c.in_ok-scene.ensures numbered) (all whole))
    c.search_within.ensures
