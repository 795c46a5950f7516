use Rattle.gt_shared_table.proofs.Keeping.{gives_keep, takes_keep, words_keep}
use Rattle.gt_shared_table.proofs.laws.every_frame_is_kept.Goals as goal

pub returns-clause-stay : goal.returns-clause-stay
returns-clause-stay c = words_keep

pub returns-clause-taken : goal.returns-clause-taken
returns-clause-taken c = takes_keep

pub returns-clause-back : goal.returns-clause-back
returns-clause-back c = gives_keep
