use Rattle.gt_core.proofs.TakenBack.{trace-legal}
use Rattle.gt_core.proofs.laws.every_legal_trace_is_a_legal_history.Goals as goal

pub returns : goal.returns
returns c s events trace legal = trace-legal s events trace legal
