use Rattle.std.proofs.Common.{subst, arith, All}
use Rattle.std.proofs.lemmas.List.Elements.{All-head, All-tail}
use Rattle.std.specs.Vec.Iter.{into_iter_items}
use Rattle.gt_live.specs.Domains.{BelongsTo}
use Rattle.gt_run.proofs.JobLemmas.{stands_on}
use Rattle.gt_run.proofs.threads.all_running.Goals as goal

pub new-requires : goal.new-requires
new-requires g c =
    All-head (BelongsTo g.P.Allows.may c.args.monitor.now) c.in-Some.domain (into_iter_items c.next.new.self)
    (subst (All (BelongsTo g.P.Allows.may c.args.monitor.now)) c.in-Some.ensures.items c.rest.invariant.0)

pub rest-preserved : goal.rest-preserved
rest-preserved g c =
    let all = c.rest.invariant in (
      All-tail (BelongsTo g.P.Allows.may c.args.monitor.now) c.in-Some.domain (into_iter_items c.next.new.self)
          (subst (All (BelongsTo g.P.Allows.may c.args.monitor.now)) c.in-Some.ensures.items all.0),
      omega (arith, all.1, c.in-Some.ensures.len, c.push_reserved.ensures.len, c.push_reserved.ensures.capacity),
      stands_on c.args.monitor.now _ _ _ c.in-Some.domain _ _ _ c.push_reserved.ensures.items c.new.ensures c.in-Some.ensures.items all.2,
    )
