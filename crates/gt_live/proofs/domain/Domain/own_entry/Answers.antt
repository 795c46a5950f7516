use Rattle.std.proofs.Common.{◌∙◌, ap}
use Rattle.gt_model.specs.Rules.{CallerKnowledge}
use Rattle.gt_live.proofs.domain.Domain.own_entry.Goals as goal

pub returns : goal.returns
returns g c = record {
  entry = c.own_entry.ensures.entry ∙ ap (λ (x : CallerKnowledge). x.entry c.args.gref.0) c.known.ensures;
  generation = c.own_entry.ensures.generation ∙ ap (λ (x : CallerKnowledge). x.generation c.args.gref.0) c.known.ensures;
}
