use Rattle.std.proofs.Common.{◌≡◌, ◌+◌, ◌≤◌, drop, map}
use Rattle.gt_explore_verdict.specs.Formulas.{operation_asked}
use Rattle.gt_explore_verdict.specs.Placing.{first_unanswered}
use Rattle.gt_explore_verdict.proofs.placing.first_unanswered.Given as goal

abbrev pub invariant-operations : goal.invariant-operations
invariant-operations l = record {
  number : l.number ≤ l.operation-index + 1;
  first : first_unanswered l.calls l.domains 1 (map operation_asked l.operations)
      ≡ first_unanswered l.calls l.domains l.number (map operation_asked (drop l.operation-index l.operations));
}
