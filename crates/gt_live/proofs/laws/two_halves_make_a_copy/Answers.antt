use Rattle.gt_live.proofs.Copied.{whole-copy}
use Rattle.gt_live.proofs.laws.two_halves_make_a_copy.Goals as goal

pub returns : goal.returns
returns c = whole-copy
