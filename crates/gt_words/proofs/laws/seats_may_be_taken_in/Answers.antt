use Rattle.gt_words.proofs.laws.seats_may_be_taken_in.Goals as goal
use Rattle.gt_word_history.proofs.Joining.{holders_learn, seats_join, steps_lift}

pub returns-clause-lift : goal.returns-clause-lift
returns-clause-lift c = steps_lift

pub returns-clause-join : goal.returns-clause-join
returns-clause-join c = seats_join

pub returns-clause-learn : goal.returns-clause-learn
returns-clause-learn c = holders_learn
