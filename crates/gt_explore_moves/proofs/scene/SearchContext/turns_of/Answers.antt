use Rattle.std.proofs.Common.{◌≡◌, ◌+◌, List, sym, ap, ◌∙◌, subst, take}
use Rattle.gt_explore_moves.specs.Ends.{choices_in, turns_by}
use Rattle.gt_explore_moves.specs.declared.actor.Actor.{Actor}
use Rattle.gt_explore_moves.proofs.MovesListed.{turns-step}
use Rattle.gt_explore_moves.proofs.scene.SearchContext.turns_of.Goals as goal

pub loop-place-preserved : goal.loop-place-preserved
loop-place-preserved c = let l = c.loop-place in let xs = c.as_slice-actor-items.result.now in
    let same = c.as_slice-actor-items.ensures.value in
    let moves = choices_in c.args.self.now c.args.inside.now in
    subst (λ (actors : List Actor). c.push_choices.new.turns.items ≡ turns_by moves 0 (take (l.place + 1) actors)) same
    (turns-step moves xs l.place c.actor-item.result c.choices_in.result l.turns.items c.push_choices.new.turns.items
    c.loop-place-test.true c.actor-item.is
    (l.invariant ∙ ap (λ (actors : List Actor). turns_by moves 0 (take l.place actors)) (sym same))
    c.in_ok-push_choices.ensures c.choices_in.ensures)
