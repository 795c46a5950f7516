use Rattle.std.proofs.Common.{◌≡◌, ◌++◌, ℕ, sym, ap, ◌∙◌, arith}
use Rattle.std.proofs.lemmas.List.{append-nil}
use Rattle.gt_explore_moves.specs.Ends.{choices}
use Rattle.gt_explore_moves.proofs.MovesListed.{choices-step}
use Rattle.gt_explore_moves.proofs.moves.turns.push_choices.Goals as goal

pub loop-choice-init : goal.loop-choice-init
loop-choice-init c = sym (append-nil c.args.turns.now.items)

pub loop-choice-preserved : goal.loop-choice-preserved
loop-choice-preserved c =
    choices-step c.args.place c.loop-choice.choice c.args.turns.now.items c.loop-choice.turns.items c.push.new.self.items c.loop-choice.invariant c.in_ok-push.ensures.items

pub returns : goal.returns
returns c = let e : c.loop-choice.choice ≡ c.args.count = omega arith in
    c.loop-choice.invariant ∙ ap (λ (n : ℕ). c.args.turns.now.items ++ choices c.args.place n) e
