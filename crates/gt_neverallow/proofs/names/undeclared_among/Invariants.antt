use Rattle.std.proofs.Common.{◌≡◌, drop}
use Rattle.std.specs.List.{flat_map}
use Rattle.gt_neverallow.specs.Naming.{mentions_in, undeclared}
use Rattle.gt_neverallow.proofs.names.undeclared_among.Given as goal

abbrev pub invariant-items : goal.invariant-items
invariant-items l = undeclared l.statements (flat_map mentions_in l.items) ≡ undeclared l.statements (flat_map mentions_in (drop l.item-index l.items))
