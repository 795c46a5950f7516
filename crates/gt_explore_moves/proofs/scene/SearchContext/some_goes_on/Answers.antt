use Rattle.std.proofs.Common.{◌≡◌, List, Some, sym, ap, ◌∙◌, subst}
use Rattle.std.proofs.lemmas.Option.{slice_get-get_or}
use Rattle.std.specs.Prelude.{slice_get}
use Rattle.gt_explore_moves.specs.declared.actor.Actor.{Actor}
use Rattle.gt_explore_moves.proofs.scene.SearchContext.some_goes_on.Goals as goal

pub returns-then-not-is_done : goal.returns-then-not-is_done
returns-then-not-is_done c = λ yes.
    let xs = c.as_slice-actor-items.result.now in
    let same = c.as_slice-actor-items.ensures.value in
    let place = c.loop-place.place in
    let a = c.actor-item.result in (
      place,
      a,
      subst (λ (l : List Actor). slice_get l place ≡ Some a) same
          (slice_get-get_or xs place a c.loop-place-test.true ∙ ap Some (sym c.actor-item.is)),
      sym c.is_set.ensures ∙ c.if-is_set.true,
      sym c.is_done.ensures ∙ c.if-not-is_done.true,
    )
