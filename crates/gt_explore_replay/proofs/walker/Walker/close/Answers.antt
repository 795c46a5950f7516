use Rattle.std.proofs.Common.{refl}
use Rattle.gt_explore_replay.proofs.Making.{closed_back, closed_line}
use Rattle.gt_explore_replay.proofs.walker.Walker.close.Goals as goal

pub returns-in_ok-answer-in-Line-clause-closes : goal.returns-in_ok-answer-in-Line-clause-closes
returns-in_ok-answer-in-Line-clause-closes c = λ yes.
    closed_line c.args.types.now c.args.answer.now c.args.self.now _ c.in-Line.line c.in-Line.call c.in-Line.gone c.in-Line.is c.in_ok-answer-in-Line.ensures

pub returns-in-GivesBack-clause-closes : goal.returns-in-GivesBack-clause-closes
returns-in-GivesBack-clause-closes c = λ yes. closed_back c.args.types.now c.args.answer.now c.args.self.now _ c.in-GivesBack.is refl

pub returns-in-Nothing-clause-open : goal.returns-in-Nothing-clause-open
returns-in-Nothing-clause-open c = λ busy. absurd (busy c.in-Nothing.is)
