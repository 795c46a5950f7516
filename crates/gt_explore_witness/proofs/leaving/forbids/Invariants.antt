use Rattle.std.proofs.Common.{◌≡◌, drop}
use Rattle.std.specs.List.{list_any}
use Rattle.std.specs.Prelude.{◌&&◌, ◌==◌}
use Rattle.gt_explore_witness.specs.GivingAnswers.{is_forbidden}
use Rattle.gt_types.specs.declared.config.DomainConfig.{DomainConfig}
use Rattle.gt_script_runs.specs.Rights.{may_by}
use Rattle.gt_explore_witness.proofs.leaving.forbids.Given as goal

abbrev pub invariant-domains : goal.invariant-domains
invariant-domains l = list_any (λ (d : DomainConfig). (d.id.0 == l.dom.0) && is_forbidden (may_by l.rights) l.domains d.label) l.domains ≡ list_any (λ (d : DomainConfig). (d.id.0 == l.dom.0) && is_forbidden (may_by l.rights) l.domains d.label) (drop l.domain-index l.domains)
