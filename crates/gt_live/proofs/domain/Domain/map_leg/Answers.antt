use Rattle.std.proofs.Common.{◌∙◌, ap}
use Rattle.gt_types.specs.declared.DomId.{DomId}
use Rattle.gt_model.specs.Path.{map_leg}
use Rattle.gt_model.specs.Rules.{CallerKnowledge}
use Rattle.gt_live.specs.Domains.{knowledge}
use Rattle.gt_live.proofs.domain.Domain.map_leg.Goals as goal

pub returns : goal.returns
returns g c =
    let m = c.args.monitor.now in let k = knowledge m.config (g.P.Allows.may m.rights) c.args.self.now in let a = c.args.map in
    c.map_leg.ensures
    ∙ (ap (λ (x : CallerKnowledge). map_leg x c.dom.result a.dom a.gref a.flags) c.known.ensures
    ∙ ap (λ (x : DomId). map_leg k x a.dom a.gref a.flags) c.dom.ensures)
