use Rattle.std.proofs.Common.{◌≡◌, ◌+◌, ◌<◌, ◌^◌, true, refl, ap, ◌∙◌, subst, sym}
use Rattle.std.proofs.lemmas.Option.{get_or_from_slice_get}
use Rattle.std.specs.Vec.{with_item}
use Rattle.gt_explore_moves.specs.Starting.{passed_actor}
use Rattle.gt_explore_moves.specs.declared.actor.Actor.{Actor}
use Rattle.gt_explore_moves.proofs.FlagLines.{passes}
use Rattle.gt_explore_moves.proofs.scene.SearchContext.raise.Goals as goal

pub returns : goal.returns
returns c = λ s h k t ts a there show rest left flagged. let scene = c.args.self.now in let at = c.args.at in let x = c.in-Some.actor.now in let w = c.args.world.now in
    let same : x ≡ a = c.in-Some.ensures.value ∙ get_or_from_slice_get w.actors.items at a x there in (
      refl,
      refl,
      passes s h scene at ts k a t w (record { actors = with_item w.actors at c.pass.new.self; ground = w.ground; told = with_item w.told c.args.flag true }) c.pass.new.self show rest left
          (λ lt. c.pass.ensures (subst (λ (z : Actor). z.next + 1 < 2 ^ 64) (sym same) lt) ∙ ap passed_actor same) refl refl,
    )
