use Rattle.std.proofs.Common.{◌∙◌, sym}
use Rattle.std.specs.Prelude.{string_bytes}
use Rattle.gt_fault_reasons.proofs.BlockLemmas.{closed, unclosed}
use Rattle.gt_fault_reasons.proofs.blocks.block_text.Goals as goal

pub returns-in_default-2 : goal.returns-in_default-2
returns-in_default-2 c = unclosed c.in-Some.place c.args.lines.now (sym c.in-Some.is ∙ c.in_ok-place.ensures.opens)
    (sym c.in_default-2.is ∙ c.in_ok-end.ensures.closes)

pub returns : goal.returns
returns c = closed c.in-Some.place c.in-Some-2.end c.args.lines.now (string_bytes c.in_ok-text.text)
    (sym c.in-Some.is ∙ c.in_ok-place.ensures.opens) (sym c.in-Some-2.is ∙ c.in_ok-end.ensures.closes) c.in_ok-text.ensures
