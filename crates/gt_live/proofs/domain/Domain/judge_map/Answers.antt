use Rattle.std.proofs.Common.{◌∙◌, ap, sym}
use Rattle.gt_types.specs.declared.DomId.{DomId}
use Rattle.gt_model.specs.Rules.{CallerKnowledge, label_of, map_begun}
use Rattle.gt_live.specs.Domains.{knowledge}
use Rattle.gt_live.proofs.domain.Domain.judge_map.Goals as goal

pub judge_map-requires : goal.judge_map-requires
judge_map-requires g c =
    let domains = c.args.monitor.now.config.domains.items in
    c.label-label.ensures
    ∙ (ap (λ (x : DomId). label_of domains x) (sym c.dom-caller.ensures)
    ∙ sym (ap (λ (x : CallerKnowledge). label_of x.domains c.dom-caller.result) c.known.ensures))

pub returns : goal.returns
returns g c =
    let m = c.args.monitor.now in let k = knowledge m.config (g.P.Allows.may m.rights) c.args.self.now in
    c.judge_map.ensures
    ∙ (ap (λ (x : CallerKnowledge). map_begun x c.dom-caller.result c.args.dom c.args.flags) c.known.ensures
    ∙ ap (λ (x : DomId). map_begun k x c.args.dom c.args.flags) c.dom-caller.ensures)
