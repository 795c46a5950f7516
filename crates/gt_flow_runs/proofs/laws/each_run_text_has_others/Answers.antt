use Rattle.gt_flow_runs.proofs.Lines.{run-texts-have-others}
use Rattle.gt_flow_runs.proofs.laws.each_run_text_has_others.Goals as goal

pub returns : goal.returns
returns c = run-texts-have-others
