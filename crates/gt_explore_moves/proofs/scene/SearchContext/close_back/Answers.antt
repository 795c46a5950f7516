use Rattle.std.proofs.Common.{◌≡◌, None, refl, ap, ◌∙◌}
use Rattle.std.proofs.lemmas.Option.{get_or_from_slice_get}
use Rattle.gt_explore_moves.specs.declared.actor.Actor.{Actor}
use Rattle.gt_explore_moves.proofs.scene.SearchContext.close_back.Goals as goal

pub returns : goal.returns
returns c = λ a there. let at = c.args.at in let x = c.in-Some.actor.now in let w = c.args.world.now in
    let same : x ≡ a = c.in-Some.ensures.value ∙ get_or_from_slice_get w.actors.items at a x there in record {
      on = refl;
      actor = record { next = x.next; mappings = x.mappings; «open» = None };
      becomes = refl;
      closed = record {
        next = ap (λ (z : Actor). z.next) same;
        none = refl;
        maps = ap (λ (z : Actor). z.mappings.items) same;
      };
      ground = refl;
      told = refl;
    }
