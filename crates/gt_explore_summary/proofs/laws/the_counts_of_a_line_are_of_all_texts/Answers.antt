use Rattle.gt_explore_summary.proofs.Counted.{are_its_lines}
use Rattle.gt_explore_summary.proofs.laws.the_counts_of_a_line_are_of_all_texts.Goals as goal

pub returns : goal.returns
returns c = λ column. are_its_lines column
