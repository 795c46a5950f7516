use Rattle.gt_words.specs.Laws.{domain_at}
use Rattle.gt_words.proofs.laws.every_domain_has_its_position.Goals as goal

pub returns : goal.returns
returns c = domain_at
