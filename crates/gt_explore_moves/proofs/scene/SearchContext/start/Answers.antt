use Rattle.std.proofs.Common.{◌≡◌, List, length, sym, ap, ◌∙◌}
use Rattle.gt_types.specs.declared.config.Config.{Config}
use Rattle.gt_types.specs.declared.config.DomainConfig.{DomainConfig}
use Rattle.gt_explore_moves.proofs.FirstWorld.{first-shows, none-raised}
use Rattle.gt_explore_moves.proofs.scene.SearchContext.start.Goals as goal

pub returns : goal.returns
returns c = λ k is.
    let same : c.as_slice-domains.result.now ≡ c.args.self.now.roster.domains.items = c.as_slice-domains.ensures.value ∙ ap (λ (z : Config). z.domains.items) c.config.ensures in
    first-shows k c.args.self.now _ (c.in_ok-actors.ensures.many ∙ ap (λ (ds : List DomainConfig). length ds) same) c.in_ok-actors.ensures.first
    (λ config s set limits e. c.in_ok-ground.ensures.tables config s set limits (e ∙ sym same)) c.in_ok-ground.ensures.pages c.in_ok-told.ensures.many (none-raised _ _ c.in_ok-told.ensures.none) is
