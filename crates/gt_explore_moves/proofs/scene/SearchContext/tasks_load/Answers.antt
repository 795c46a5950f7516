use Rattle.std.proofs.Common.{sym, ◌∙◌}
use Rattle.gt_explore_moves.specs.Ends.{tasks_at}
use Rattle.gt_explore_moves.specs.Touches.{is_load}
use Rattle.gt_explore_moves.proofs.SetsFound.{any-here, any-step, any-stop}
use Rattle.gt_explore_moves.proofs.scene.SearchContext.tasks_load.Goals as goal

pub returns-then-awaits_at : goal.returns-then-awaits_at
returns-then-awaits_at c =
    sym (any-stop c.args.shut.now is_load c.loop-at.at (tasks_at c.args.self.now c.args.place)
    (sym c.awaits_at.ensures ∙ c.if-awaits_at.true))
    ∙ c.loop-at.invariant

pub returns-then-loads_at : goal.returns-then-loads_at
returns-then-loads_at c =
    sym (any-here c.args.shut.now is_load c.loop-at.at (tasks_at c.args.self.now c.args.place)
    (sym c.awaits_at.ensures ∙ c.if-awaits_at.false) (sym c.loads_at.ensures ∙ c.if-loads_at.true))
    ∙ c.loop-at.invariant

pub loop-at-preserved : goal.loop-at-preserved
loop-at-preserved c =
    any-step c.args.shut.now is_load c.loop-at.at (tasks_at c.args.self.now c.args.place)
    (sym c.awaits_at.ensures ∙ c.if-awaits_at.false) (sym c.loads_at.ensures ∙ c.if-loads_at.false)
    ∙ c.loop-at.invariant
