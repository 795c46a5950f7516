use Rattle.std.proofs.Common.{subst, All}
use Rattle.std.proofs.lemmas.List.Elements.{All-head, All-tail}
use Rattle.std.specs.Vec.Iter.{into_iter_items}
use Rattle.gt_live.specs.Domains.{BelongsTo}
use Rattle.gt_run.proofs.threads.finish_all.Goals as goal

pub finish-requires : goal.finish-requires
finish-requires g c = record {
  mine = All-head (BelongsTo g.P.Allows.may c.args.monitor.now) c.in-Some.domain (into_iter_items c.next.new.self)
      (subst (All (BelongsTo g.P.Allows.may c.args.monitor.now)) c.in-Some.ensures.items c.rest.invariant);
}

pub rest-preserved : goal.rest-preserved
rest-preserved g c =
    All-tail (BelongsTo g.P.Allows.may c.args.monitor.now) c.in-Some.domain (into_iter_items c.next.new.self)
    (subst (All (BelongsTo g.P.Allows.may c.args.monitor.now)) c.in-Some.ensures.items c.rest.invariant)
