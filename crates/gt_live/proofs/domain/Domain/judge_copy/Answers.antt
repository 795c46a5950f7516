use Rattle.std.proofs.Common.{◌∙◌, ap}
use Rattle.gt_types.specs.declared.DomId.{DomId}
use Rattle.gt_model.specs.Rules.{CallerKnowledge, copy_begun}
use Rattle.gt_live.specs.Domains.{knowledge}
use Rattle.gt_live.proofs.domain.Domain.judge_copy.Goals as goal

pub returns : goal.returns
returns g c =
    let m = c.args.monitor.now in let k = knowledge m.config (g.P.Allows.may m.rights) c.args.self.now in
    c.judge_copy.ensures
    ∙ (ap (λ (x : CallerKnowledge). copy_begun x c.dom.result c.args.copy.now) c.known.ensures
    ∙ ap (λ (x : DomId). copy_begun k x c.args.copy.now) c.dom.ensures)
