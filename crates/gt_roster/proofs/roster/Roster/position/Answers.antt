use Rattle.std.proofs.Common.{◌∙◌, ap}
use Rattle.std.specs.Prelude.{position}
use Rattle.gt_types.specs.declared.config.Config.{Config}
use Rattle.gt_roster.proofs.Numbered.{has_number, place-by-number}
use Rattle.gt_roster.proofs.roster.Roster.position.Goals as goal

pub returns : goal.returns
returns c = c.position.ensures ∙ place-by-number c.self.inside.positions c.self.inside.config.domains.items c.args.dom.0 c.self.invariant
    ∙ ap (λ (x : Config). position (has_number c.args.dom.0) x.domains.items) c.self.view_is
