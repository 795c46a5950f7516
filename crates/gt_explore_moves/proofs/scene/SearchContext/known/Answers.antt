use Rattle.gt_explore_moves.proofs.EntriesKnown.{known-same}
use Rattle.gt_explore_moves.proofs.scene.SearchContext.known.Goals as goal

pub returns : goal.returns
returns c = λ t lists header. known-same c.args.self.now t c.args.own.now c.args.header c.args.mappings.now lists header
