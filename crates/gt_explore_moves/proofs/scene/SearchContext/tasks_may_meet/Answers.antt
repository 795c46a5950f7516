use Rattle.std.proofs.Common.{sym, ◌∙◌}
use Rattle.gt_explore_moves.specs.Ends.{tasks_at}
use Rattle.gt_explore_moves.specs.Touches.{meets_task}
use Rattle.gt_explore_moves.proofs.SetsFound.{any-here, any-step, any-stop}
use Rattle.gt_explore_moves.proofs.scene.SearchContext.tasks_may_meet.Goals as goal

pub returns-then-awaits_at : goal.returns-then-awaits_at
returns-then-awaits_at c =
    sym (any-stop c.args.shut.now (meets_task c.args.self.now.grants.items c.args.uses c.args.next) c.loop-at.at (tasks_at c.args.self.now c.args.place)
    (sym c.awaits_at.ensures ∙ c.if-awaits_at.true))
    ∙ c.loop-at.invariant

pub returns-then-meets_task_at : goal.returns-then-meets_task_at
returns-then-meets_task_at c =
    sym (any-here c.args.shut.now (meets_task c.args.self.now.grants.items c.args.uses c.args.next) c.loop-at.at (tasks_at c.args.self.now c.args.place)
    (sym c.awaits_at.ensures ∙ c.if-awaits_at.false) (sym c.meets_task_at.ensures ∙ c.if-meets_task_at.true))
    ∙ c.loop-at.invariant

pub loop-at-preserved : goal.loop-at-preserved
loop-at-preserved c =
    any-step c.args.shut.now (meets_task c.args.self.now.grants.items c.args.uses c.args.next) c.loop-at.at (tasks_at c.args.self.now c.args.place)
    (sym c.awaits_at.ensures ∙ c.if-awaits_at.false) (sym c.meets_task_at.ensures ∙ c.if-meets_task_at.false)
    ∙ c.loop-at.invariant
