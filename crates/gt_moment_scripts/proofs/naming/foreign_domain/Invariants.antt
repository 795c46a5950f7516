use Rattle.std.proofs.Common.{◌≡◌, drop}
use Rattle.gt_moment_scripts.specs.Naming.{foreign_domain}
use Rattle.gt_moment_scripts.proofs.naming.foreign_domain.Given as goal

abbrev pub invariant-entries : goal.invariant-entries
invariant-entries l = foreign_domain l.domains l.entries ≡ foreign_domain l.domains (drop l.entry-index l.entries)
