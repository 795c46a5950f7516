use Rattle.std.proofs.Common.{refl}
use Rattle.std.proofs.lemmas.Result.{IfOk-weaker}
use Rattle.gt_explore_moves.specs.Ticking.{IsTick}
use Rattle.gt_explore_moves.proofs.scene.SearchContext.tick.Goals as goal

pub returns : goal.returns
returns c = λ s h k j a i shows has event right leads. let w = c.args.world.now in
    let tick : IsTick s h c.args.self.now w c.args.at k a c.args.open i = record { shows = shows; has = has; event = event; right = right } in
    IfOk-weaker c.settle_call.result _ _ (λ led t. record { grows = t.grows; actor = t.actor; becomes = t.becomes; shows = t.shows; tables = t.tables; pages = t.pages; told = t.told })
    (c.settle_call.ensures s h w k j a i tick leads refl (c.in_ok-seen.ensures s h w k a i tick refl))
