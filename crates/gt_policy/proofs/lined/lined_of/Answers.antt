use Rattle.gt_policy.proofs.LinedLemmas.{lined_is}
use Rattle.gt_policy.proofs.lined.lined_of.Goals as goal

pub returns : goal.returns
returns c =
    lined_is c.lined.result c.args.text.now c.new-seen.result c.lined.new.seen c.new-parser.result c.requires c.new-seen.ensures c.new-parser.ensures c.lined.ensures
