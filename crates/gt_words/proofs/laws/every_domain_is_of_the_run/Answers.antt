use Rattle.gt_words.specs.Laws.{domain_of_run}
use Rattle.gt_words.proofs.laws.every_domain_is_of_the_run.Goals as goal

pub returns : goal.returns
returns c = domain_of_run
