use Rattle.std.proofs.Common.{refl}
use Rattle.gt_explore_replay.proofs.Doing.{makes_step, ticked_done, ticked_on}
use Rattle.gt_explore_replay.proofs.Making.{step_done, step_open}
use Rattle.gt_explore_replay.proofs.walker.Walker.tick.Goals as goal

pub returns-in-Step-clause-makes : goal.returns-in-Step-clause-makes
returns-in-Step-clause-makes c =
    step_open _ c.args.types.now _ _ c.args.self.now c.in_ok-ticked.ticked c.in-Step.step c.in-Step.seen c.requires c.in-Step.is c.in_ok-ticked.ensures.stands

pub returns-then-closed-clause-makes : goal.returns-then-closed-clause-makes
returns-then-closed-clause-makes c =
    step_done _ c.args.types.now _ _ c.args.self.now _ c.in_ok-ticked.ticked c.in-Done.step c.in-Done.seen c.in-Done.answer c.in-Done.is c.in_ok-ticked.ensures.stands (c.in_ok-closed-in-Done.ensures.closes c.if-closed.true)

pub returns-in-Step-clause-does : goal.returns-in-Step-clause-does
returns-in-Step-clause-does c =
    makes_step _ c.args.types.now _ _ c.args.self.now _ c.in_ok-ticked.ticked _ c.in_ok-ticked.ensures.stands
    (ticked_on c.args.types.now c.args.self.now c.in_ok-ticked.ticked c.in-Step.step c.in-Step.seen _ c.in-Step.is refl)

pub returns-then-closed-clause-does : goal.returns-then-closed-clause-does
returns-then-closed-clause-does c =
    makes_step _ c.args.types.now _ _ c.args.self.now _ c.in_ok-ticked.ticked _ c.in_ok-ticked.ensures.stands
    (ticked_done c.args.types.now c.args.self.now _ c.in_ok-ticked.ticked c.in-Done.step c.in-Done.seen c.in-Done.answer _ c.in-Done.is refl (c.in_ok-closed-in-Done.ensures.closes c.if-closed.true))
