use Rattle.std.proofs.Common.{◌≡◌, None, Some, refl}
use Rattle.gt_run.proofs.JobLemmas.{gate_at, joins_next, joins_none, may_take_next, next_handle}
use Rattle.gt_run.proofs.threads.join_each.Goals as goal

pub joins-init : goal.joins-init
joins-init g c = (joins_none g.P.Allows.may (g.G.Gate.refuses c.args.gate.now) _ _ c.new-audit.ensures.items, tt, λ e. refl)

pub take_in-requires : goal.take_in-requires
take_in-requires g c =
    may_take_next c.args.monitor.now c.joins.gathered c.join-output.result.left c.args.handles.items c.joins.yielded _ c.in-Some.handle c.requires.run
    (next_handle c.args.handles.items c.into_iter-handle-iterator.result c.joins.yielded c.joins.handle-iterator c.next.new.self c.in-Some.handle c.into_iter-handle-iterator.ensures.into_iter_gives.0 c.joins.yielded_by c.in-Some.ensures.steps)
    c.joins.invariant.1 c.joins.invariant.2 c.join-output.ensures.1

pub joins-preserved : goal.joins-preserved
joins-preserved g c = (
  joins_next g.P.Allows.may g.G.Gate.refuses c.args.gate.now c.args.monitor.now.words c.joins.yielded c.in-Some.handle c.join-output.result _ _ _ _ _ _ _ _ _ _ c.joins.gathered c.take_in.result
      (gate_at c.args.gate.now c.args.handles.items c.joins.yielded _ c.in-Some.handle c.requires.gate
      (next_handle c.args.handles.items c.into_iter-handle-iterator.result c.joins.yielded c.joins.handle-iterator c.next.new.self c.in-Some.handle c.into_iter-handle-iterator.ensures.into_iter_gives.0 c.joins.yielded_by c.in-Some.ensures.steps))
      c.take_in.ensures
      c.joins.invariant.0 c.write_next-outcome.ensures c.keep_audit-outcome.ensures.ok c.keep_audit-outcome.ensures.err c.saturating_add-lost.ensures c.join-output.ensures.0,
  c.take_in.ensures.0,
  λ e. not-none _ e,
)
  where
    not-none : {A B : Type 0} (x : A) → Some x ≡ None → B
    not-none x e = cc
