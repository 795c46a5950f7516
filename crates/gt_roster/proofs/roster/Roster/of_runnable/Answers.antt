use Rattle.std.proofs.Common.{◌≡◌, ◌∙◌, ap, map, sym}
use Rattle.gt_types.specs.declared.config.DomainConfig.{DomainConfig}
use Rattle.gt_roster.proofs.OneFrame.{ids_same}
use Rattle.gt_roster.proofs.roster.Roster.of_runnable.Goals as goal

pub invariant_of-result : goal.invariant_of-result
invariant_of-result c = sym (c.in_ok-positions.ensures ∙ ap (map (λ (d : DomainConfig). d.id)) c.requires.0.0 ∙ ids_same c.args.config.domains.items)
