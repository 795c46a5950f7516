use Rattle.std.proofs.Common.{◌≡◌, [], drop, map}
use Rattle.gt_explore_verdict.specs.Formulas.{all_values, operation_asked}
use Rattle.gt_explore_verdict.proofs.operations.values_of.Given as goal

abbrev pub invariant-operations : goal.invariant-operations
invariant-operations l =
    all_values (map (λ x. x.now) l.lines) [] (map operation_asked l.operations)
    ≡ all_values (map (λ x. x.now) l.lines) l.values.items (map operation_asked (drop l.operation-index l.operations))
