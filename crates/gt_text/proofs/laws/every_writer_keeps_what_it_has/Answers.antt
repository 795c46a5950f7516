use Rattle.gt_text.specs.Laws.{appends_nothing, keeps_same}
use Rattle.gt_text.proofs.laws.every_writer_keeps_what_it_has.Goals as goal

pub returns-clause-keeps : goal.returns-clause-keeps
returns-clause-keeps c = keeps_same

pub returns-clause-nothing : goal.returns-clause-nothing
returns-clause-nothing c = appends_nothing
