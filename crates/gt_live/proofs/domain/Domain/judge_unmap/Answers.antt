use Rattle.std.proofs.Common.{◌∙◌, ap, sym}
use Rattle.gt_model.specs.Rules.{CallerKnowledge, label_of, owner_label, unmap_begun}
use Rattle.gt_live.proofs.domain.Domain.judge_unmap.Goals as goal

pub returns : goal.returns
returns g c =
    let caller = c.args.self.now.seat.dom in
    let label = c.label-source.ensures ∙ sym (ap (λ (x : CallerKnowledge). label_of x.domains caller) c.known.ensures) in
    let owner = c.owner_label-target.ensures ∙ sym (ap (λ (x : CallerKnowledge). owner_label x.domains (x.mapping c.args.handle)) c.known.ensures) in
    c.judge_unmap.ensures caller label owner
    ∙ ap (λ (x : CallerKnowledge). unmap_begun x caller c.args.handle) c.known.ensures
