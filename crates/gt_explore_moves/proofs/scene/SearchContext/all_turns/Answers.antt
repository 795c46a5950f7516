use Rattle.std.proofs.Common.{◌≡◌, ◌+◌, List, sym, ap, ◌∙◌, subst, take}
use Rattle.gt_explore_moves.specs.Ends.{choices_at, turns_from}
use Rattle.gt_explore_moves.specs.declared.actor.Actor.{Actor}
use Rattle.gt_explore_moves.proofs.MovesListed.{turns-step}
use Rattle.gt_explore_moves.proofs.scene.SearchContext.all_turns.Goals as goal

pub loop-place-preserved : goal.loop-place-preserved
loop-place-preserved c = let l = c.loop-place in let xs = c.as_slice-actor-items.result.now in let same = c.as_slice-actor-items.ensures.value in
    subst (λ (actors : List Actor). c.push_choices.new.turns.items ≡ turns_from c.args.self.now 0 (take (l.place + 1) actors)) same
    (turns-step (choices_at c.args.self.now) xs l.place c.actor-item.result c.choices.result l.turns.items c.push_choices.new.turns.items c.loop-place-test.true c.actor-item.is
    (l.invariant ∙ ap (λ (actors : List Actor). turns_from c.args.self.now 0 (take l.place actors)) (sym same)) c.in_ok-push_choices.ensures c.choices.ensures)
