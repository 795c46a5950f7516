use Rattle.std.proofs.Common.{sym, ap, ◌∙◌, subst, List, All, take, ◌+◌}
use Rattle.std.proofs.lemmas.List.{take_all}
use Rattle.std.proofs.lemmas.Option.{none-some}
use Rattle.gt_explore_moves.specs.Granting.{IsListed}
use Rattle.gt_explore_moves.specs.declared.granted.GrantedEntry.{GrantedEntry}
use Rattle.gt_explore_moves.proofs.GrantingTasks.{listed-with, listed-without}
use Rattle.gt_explore_moves.proofs.granted.entries_granted.Goals as goal
use Rattle.gt_explore_moves.proofs.granted.entries_granted.Goals.{in-Some+in_ok-push, in_default}

pub tasks-preserved : goal.tasks-preserved
tasks-preserved c = elim c.match-branch-2.branch [
  | in-Some+in_ok-push w ↦ subst (λ (gs : List GrantedEntry). All (IsListed gs) (take (c.tasks.task-index + 1) c.args.tasks.now))
      (sym (ap (λ v. v.items) w.grants-is ∙ w.in_ok-push.ensures.items))
      (listed-with c.tasks.grants.items w.in-Some.granted c.args.tasks.now c.tasks.task-index c.task-item.result _
      c.tasks-test.true c.task-item.is
      (λ r e may. sym w.in-Some.is ∙ c.in_ok-granted.ensures.granted r e may) c.granted_by.ensures.fits
      c.tasks.invariant)
  | in_default w ↦ subst (λ (gs : List GrantedEntry). All (IsListed gs) (take (c.tasks.task-index + 1) c.args.tasks.now))
      (sym (ap (λ v. v.items) w.grants-is))
      (listed-without c.tasks.grants.items c.args.tasks.now c.tasks.task-index c.task-item.result _
      c.tasks-test.true c.task-item.is
      (λ r e may. none-some _ (sym w.in_default.is ∙ c.in_ok-granted.ensures.granted r e may)) c.granted_by.ensures.fits
      c.tasks.invariant)
]

pub returns : goal.returns
returns c = subst (All (IsListed c.tasks.grants.items)) (take_all c.tasks.task-index c.args.tasks.now c.tasks-test.false)
    c.tasks.invariant
