use Rattle.std.proofs.Common.{◌∙◌, sym}
use Rattle.gt_explore_witness.proofs.Compared.{goes}
use Rattle.gt_explore_witness.proofs.checked.goes_on_with.Goals as goal

pub returns : goal.returns
returns c = λ all.
    goes c.args.lines.now c.args.all.now c.split_at.result.0.now c.split_at.result.1.now c.args.with.now c.split_at.ensures.front c.split_at.ensures.back
    (c.are_same.ensures c.if-not-are_same.false) (sym c.are_all.ensures ∙ all)
