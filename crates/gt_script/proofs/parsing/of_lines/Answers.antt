use Rattle.std.proofs.Common.{sym, ◌∙◌}
use Rattle.gt_script.specs.Contents.{contents_of}
use Rattle.gt_script.proofs.FaultLemmas.{lines_block, lines_none}
use Rattle.gt_script.proofs.parsing.of_lines.Goals as goal

pub returns-in-Some : goal.returns-in-Some
returns-in-Some c = lines_block c.args.command c.args.lines.now c.in-Some.place c.of_block.result (sym c.in-Some.is ∙ c.in_ok-place.ensures.opens) c.of_block.ensures

pub returns-in-None : goal.returns-in-None
returns-in-None c = lines_none c.args.command c.args.lines.now (contents_of c.new.result) c.in_ok-place.field-0 c.with_rest.result c.in_ok-place.ensures.opens c.in-None.is c.new.ensures c.with_rest.ensures
