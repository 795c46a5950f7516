use Rattle.std.proofs.Common.{◌≡◌, ℕ, List, Option, refl, ◌∙◌, subst}
use Rattle.std.proofs.lemmas.Option.{get_or_from_slice_get}
use Rattle.std.proofs.lemmas.Result.{IfOk-weaker}
use Rattle.gt_explore_moves.specs.Ticking.{CallIsOver, label_given_by}
use Rattle.gt_explore_moves.specs.declared.actor.Actor.{Actor}
use Rattle.gt_explore_moves.proofs.scene.SearchContext.close_line.Goals as goal

pub returns : goal.returns
returns c = λ h a there shows fits. let at = c.args.at in let x = c.in-Some.actor.now in let w = c.args.world.now in
    let same : x ≡ a = c.in-Some.ensures.value ∙ get_or_from_slice_get w.actors.items at a x there in
    IfOk-weaker c.line.result _ _ (λ led prints. record {
      answer = c.in_ok-answer.answer;
      answers = c.in_ok-answer.ensures h shows fits;
      prints = prints;
      actor = c.close.new.self;
      becomes = refl;
      closed = subst (λ (z : Actor). CallIsOver (label_given_by c.args.task.now.run_action) c.args.verdict z c.close.new.self) same
          (subst (λ (l : Option (List ℕ)). CallIsOver l c.args.verdict x c.close.new.self) c.label_of.ensures c.in_ok-close.ensures);
      ground = refl;
      told = refl;
    }) c.line.ensures
