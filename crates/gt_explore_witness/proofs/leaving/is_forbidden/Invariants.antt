use Rattle.std.proofs.Common.{◌≡◌, drop}
use Rattle.std.specs.List.{list_any}
use Rattle.std.specs.Prelude.{not}
use Rattle.gt_types.specs.Names.{unmap}
use Rattle.gt_types.specs.declared.config.DomainConfig.{DomainConfig}
use Rattle.gt_script_runs.specs.Rights.{may_by}
use Rattle.gt_explore_witness.proofs.leaving.is_forbidden.Given as goal

abbrev pub invariant-domains : goal.invariant-domains
invariant-domains l = list_any (λ (d : DomainConfig). not (may_by l.rights l.source d.label unmap)) l.domains ≡ list_any (λ (d : DomainConfig). not (may_by l.rights l.source d.label unmap)) (drop l.domain-index l.domains)
