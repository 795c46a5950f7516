use Rattle.gt_handles.specs.Handles.{IsLeastFrom}
use Rattle.gt_handles.proofs.handles.Handles.next_from.Given as goal

abbrev pub invariant-keys : goal.invariant-keys
invariant-keys g l = IsLeastFrom l.self l.from l.key
