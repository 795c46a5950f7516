use Rattle.std.proofs.Common.{◌<◌, List, length, subst}
use Rattle.gt_types.specs.declared.DomId.{DomId}
use Rattle.gt_word_history.specs.Rule.{position_in}
use Rattle.bench.proofs.words.loads.has_domain.Goals as goal

pub returns : goal.returns
returns c = λ is. subst (λ (ids : List DomId). position_in ids c.args.dom < length ids) c.in-Ok.ensures (c.is_placed.ensures is)
