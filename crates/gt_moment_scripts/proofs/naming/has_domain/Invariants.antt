use Rattle.std.proofs.Common.{◌≡◌, drop}
use Rattle.gt_types.specs.Names.{domain_of}
use Rattle.gt_moment_scripts.proofs.naming.has_domain.Given as goal

abbrev pub invariant-domains : goal.invariant-domains
invariant-domains l = domain_of l.domains l.dom ≡ domain_of (drop l.domain-index l.domains) l.dom
