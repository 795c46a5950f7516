use Rattle.std.proofs.Common.{◌≡◌, ◌⊎◌, ◌<◌, true}
use Rattle.gt_types.specs.declared.TypeId.{TypeId}
use Rattle.gt_flow.specs.Accesses.{is_among}
use Rattle.gt_flow.proofs.searching.others.Given as goal

abbrev pub invariant-types : goal.invariant-types
invariant-types l = (y : TypeId) → y.0 < l.id → (y ≡ l.source) ⊎ (is_among l.left.items y ≡ true)
