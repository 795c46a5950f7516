use Rattle.std.proofs.Common.{◌≡◌, drop}
use Rattle.gt_neverallow.specs.Naming.{is_declared_in}
use Rattle.gt_neverallow.proofs.names.is_declared.Given as goal

abbrev pub invariant-statements : goal.invariant-statements
invariant-statements l = is_declared_in l.statements l.name ≡ is_declared_in (drop l.stated-index l.statements) l.name
