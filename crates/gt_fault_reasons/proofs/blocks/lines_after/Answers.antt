use Rattle.std.proofs.Common.{◌∙◌, sym}
use Rattle.std.proofs.lemmas.List.{append-nil}
use Rattle.std.specs.Prelude.{replicate}
use Rattle.gt_fault_reasons.proofs.BlockLemmas.{blank-lines}
use Rattle.gt_fault_reasons.proofs.blocks.lines_after.Goals as goal

pub lines-init : goal.lines-init
lines-init c = c.in_ok-text.ensures.bytes ∙ blank-lines c.args.before ∙ sym (append-nil (replicate c.args.before 10))
