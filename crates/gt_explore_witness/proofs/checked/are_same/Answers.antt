use Rattle.std.proofs.Common.{◌∙◌, sym}
use Rattle.gt_explore_witness.proofs.Compared.{same_lines}
use Rattle.gt_explore_witness.proofs.checked.are_same.Goals as goal

pub returns : goal.returns
returns c = λ same. same_lines c.args.lines.now c.args.others.now (sym c.eq.ensures ∙ same)
