use Rattle.std.proofs.Common.{◌∙◌, ◌≡◌, ap, sym, get_or, Some}
use Rattle.gt_types.specs.declared.config.Config.{Config}
use Rattle.gt_types.specs.declared.config.DomainConfig.{DomainConfig}
use Rattle.gt_roster.proofs.Numbered.{domain-there, domain-nowhere}
use Rattle.gt_roster.proofs.roster.Roster.domain.Goals as goal

pub returns-in-Some : goal.returns-in-Some
returns-in-Some c =
    let xs = c.args.self.now.domains.items in let x = c.index.result.now in let at = c.in-Some.at in
    let here : x ≡ get_or xs at x = c.index.ensures ∙ ap (λ (z : Config). get_or z.domains.items at x) c.self.view_is in
    sym (domain-there xs c.args.dom at x (sym c.position.ensures ∙ c.in-Some.is) ∙ ap (λ (d : DomainConfig). Some d) (sym here))

pub returns-in-None : goal.returns-in-None
returns-in-None c = sym (domain-nowhere c.args.self.now.domains.items c.args.dom (sym c.position.ensures ∙ c.in-None.is))
