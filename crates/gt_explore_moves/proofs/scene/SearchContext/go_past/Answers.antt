use Rattle.std.proofs.Common.{◌≡◌, ◌+◌, ◌<◌, ◌^◌, Bool, List, get_or, true, false, refl, ap, ◌∙◌, subst, sym}
use Rattle.std.proofs.lemmas.Bool.{true≢false}
use Rattle.std.proofs.lemmas.Option.{get_or_from_slice_get}
use Rattle.std.specs.Vec.{with_item}
use Rattle.gt_explore_moves.specs.Starting.{passed_actor}
use Rattle.gt_explore_moves.specs.declared.actor.Actor.{Actor}
use Rattle.gt_explore_moves.proofs.FlagLines.{passes}
use Rattle.gt_explore_moves.proofs.scene.SearchContext.go_past.Goals as goal

pub returns-then-is_raised : goal.returns-then-is_raised
returns-then-is_raised c = record {
  raised = λ s h k t ts a there show rest left flagged. let scene = c.args.self.now in let at = c.args.at in let x = c.in-Some.actor.now in let w = c.args.world.now in
      let same : x ≡ a = c.in-Some.ensures.value ∙ get_or_from_slice_get w.actors.items at a x there in (
        refl,
        refl,
        passes s h scene at ts k a t w (record { actors = with_item w.actors at c.pass.new.self; ground = w.ground; told = w.told }) c.pass.new.self show rest left
            (λ lt. c.pass.ensures (subst (λ (z : Actor). z.next + 1 < 2 ^ 64) (sym same) lt) ∙ ap passed_actor same) refl refl,
      );
}

pub returns-else-is_raised : goal.returns-else-is_raised
returns-else-is_raised c = record {
  raised = λ s h k t ts a there show rest left flagged.
      let told = c.args.world.now.told.items in let v = c.as_slice.ensures.value in let e = c.is_set-is_raised.ensures in
      absurd (true≢false (sym (get_or_from_slice_get told c.args.flag true false flagged) ∙ sym (ap (λ (l : List Bool). get_or l c.args.flag false) v) ∙ sym e ∙ c.if-is_raised.false));
}
