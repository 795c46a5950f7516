use Rattle.gt_flow_runs.proofs.Printed.{printed-have-others}
use Rattle.gt_flow_runs.proofs.laws.each_printed_text_has_others.Goals as goal

pub returns : goal.returns
returns c = printed-have-others c.given_texts_are_printed.ensures c.printed_texts_are_given.ensures
