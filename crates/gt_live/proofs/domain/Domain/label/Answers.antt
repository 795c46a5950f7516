use Rattle.std.proofs.Common.{◌∙◌, ℕ, ap, get_or}
use Rattle.gt_types.specs.declared.config.Config.{Config}
use Rattle.gt_types.specs.declared.config.DomainConfig.{DomainConfig}
use Rattle.gt_live.proofs.Labels.{label-there}
use Rattle.gt_live.proofs.domain.Domain.label.Goals as goal

pub returns : goal.returns
returns g c =
    let m = c.args.monitor.now in let found = c.index.result.now in
    ap (λ (d : DomainConfig). d.label)
    (c.index.ensures ∙ ap (λ (x : Config). get_or x.domains.items c.position.result found) c.config.ensures ∙ ap (λ (n : ℕ). get_or m.config.domains.items n found) c.position.ensures)
    ∙ label-there m.words m.config c.args.self.now.seat found m.limits m.same_run c.requires.mine.seat
