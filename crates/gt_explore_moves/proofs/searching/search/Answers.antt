use Rattle.std.proofs.lemmas.Result.{IfOk-weaker}
use Rattle.gt_script.specs.RunContents.{run_contents}
use Rattle.gt_explore_moves.proofs.Ways.{finds-all}
use Rattle.gt_explore_moves.proofs.searching.search.Goals as goal

pub returns : goal.returns
returns c = λ numbered.
    IfOk-weaker c.search.result _ _ (λ found all. finds-all c.in_ok-scene.scene (run_contents c.args.script.now) found (c.in_ok-scene.ensures numbered) all) c.search.ensures
