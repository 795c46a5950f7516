use Rattle.std.proofs.lemmas.Result.{on_ok_weaker}
use Rattle.gt_explore_state.proofs.Writings.{pages-shown, in-frames}
use Rattle.gt_explore_state.proofs.ground.SparseState.write.Goals as goal

pub returns-clause-shows : goal.returns-clause-shows
returns-clause-shows c = λ s h i at seen shows item is.
    on_ok_weaker c.write_to.result (λ after. pages-shown s h i at c.args.step seen c.args.given.now c.args.self.now.pages.items c.write_to.new.pages.items shows item is after) (c.write_to.ensures (in-frames s h i at c.args.step seen item))
