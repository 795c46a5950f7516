use Rattle.gt_script_runs.proofs.LabelLemmas.{others_kept}
use Rattle.gt_script_runs.proofs.labels.Labels.name.Goals as goal

pub returns-clause-others : goal.returns-clause-others
returns-clause-others c = λ d l apart. others_kept _ _ (c.args.dom.0, c.args.label) d l c.in_ok-insert.ensures.updates.3 apart
