use Rattle.std.proofs.Common.{◌≡◌, drop}
use Rattle.gt_flow.specs.Accesses.{is_among}
use Rattle.gt_flow.proofs.accesses.is_among.Given as goal

abbrev pub invariant-ids : goal.invariant-ids
invariant-ids l = is_among l.ids l.x ≡ is_among (drop l.id-index l.ids) l.x
