use Rattle.std.proofs.Common.{subst, All, List}
use Rattle.std.proofs.lemmas.List.Elements.{All-head, All-tail}
use Rattle.std.specs.Vec.Iter.{into_iter_items}
use Rattle.gt_live.specs.Domains.{BelongsTo}
use Rattle.gt_live.specs.declared.domain.Domain.{Domain}
use Rattle.gt_attached.proofs.starting.finish_all.Goals as goal

pub finish-requires : goal.finish-requires
finish-requires g c =
    let Mine : Domain → Type 0 = λ d. BelongsTo g.P.Allows.may c.args.monitor.now d in
    let all = subst (λ (ds : List Domain). All Mine ds) c.in-Some.ensures.items c.rest.invariant in
    record { mine = All-head Mine c.in-Some.domain (into_iter_items c.next.new.self) all }

pub rest-preserved : goal.rest-preserved
rest-preserved g c =
    let Mine : Domain → Type 0 = λ d. BelongsTo g.P.Allows.may c.args.monitor.now d in
    let all = subst (λ (ds : List Domain). All Mine ds) c.in-Some.ensures.items c.rest.invariant in
    All-tail Mine c.in-Some.domain (into_iter_items c.next.new.self) all
