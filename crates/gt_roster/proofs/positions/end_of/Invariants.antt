use Rattle.std.proofs.Common.{ℕ, ◌<◌, get_or}
use Rattle.gt_types.specs.declared.DomId.{DomId}
use Rattle.gt_roster.proofs.positions.end_of.Given as goal

abbrev pub invariant-loop-id : goal.invariant-loop-id
invariant-loop-id l = (k : ℕ) (d : DomId) → k < l.id-index → (get_or l.ids k d).0 < l.end
