use Rattle.std.proofs.Common.{◌∙◌, ap, sym}
use Rattle.std.specs.Str.Lines.{lines as lines_in}
use Rattle.gt_call_names.specs.Naming.{with_line_numbers}
use Rattle.gt_script.specs.RunContents.{run_contents}
use Rattle.gt_explore_by_choice.proofs.making.made_by.Goals as goal

pub returns-in_default : goal.returns-in_default
returns-in_default g c = λ source are whole reads. c.made_plain.ensures source (run_contents c.args.base.now) are reads

pub returns-in-Ok : goal.returns-in-Ok
returns-in-Ok g c = λ source are whole reads.
    c.made_numbered.ensures source c.in-Some.expression.now are reads (sym c.in-Some.ensures) (c.as_slice.ensures.value ∙ c.in-Ok.ensures.ok ∙ ap (λ w. with_line_numbers (lines_in w) c.in-Some.expression.now) whole)
