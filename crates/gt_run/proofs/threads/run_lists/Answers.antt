use Rattle.std.proofs.lemmas.Result.{err_from_is_err_and}
use Rattle.gt_run.proofs.JobLemmas.{begins_first, ready_all, wrote_as, wrote_none}
use Rattle.gt_run.proofs.threads.run_lists.Goals as goal

pub run_each-requires : goal.run_each-requires
run_each-requires g c = (
  c.type_bounds.sync-R,
  (
    c.type_bounds.sync-P,
    (
      c.type_bounds.sync-G,
      (
        ready_all g.P.Allows.may c.in-Ok.monitor c.args.config c.args.rights c.in-Ok.domains.items _ _ c.requires.each c.in-Ok.ensures.run.0 c.in-Ok.ensures.run.1 c.in-Ok.ensures.count
            c.in-Ok.ensures.domains c.in_ok-domains-in-Ok.ensures,
        begins_first c.in-Ok.monitor c.args.config _ c.requires.each c.in-Ok.ensures.run.0,
      ),
    ),
  ),
)

pub returns-in_ok-domains-in-Ok : goal.returns-in_ok-domains-in-Ok
returns-in_ok-domains-in-Ok g c =
    wrote_as g.P.Allows.may (g.G.Gate.refuses c.args.context.now.gate.now) _ _ _ _ _ (λ jobs are. (_, c.in-Ok.ensures.run.0, c.in-Ok.ensures.ok, c.in-Ok.ensures.run.1, c.in-Ok.ensures.flags, c.in-Ok.ensures.frames, are)) c.run_each.ensures

pub returns-in_err-domains-in-Ok : goal.returns-in_err-domains-in-Ok
returns-in_err-domains-in-Ok g c =
    let p = err_from_is_err_and c.from_residual.result c.from_residual.ensures.1 in
    rw p.1 (wrote_none g.P.Allows.may (g.G.Gate.refuses c.args.context.now.gate.now) _ _ _ p.2)

pub returns-in-Err-Memory : goal.returns-in-Err-Memory
returns-in-Err-Memory g c = wrote_none g.P.Allows.may (g.G.Gate.refuses c.args.context.now.gate.now) _ _ _ c.from.ensures
