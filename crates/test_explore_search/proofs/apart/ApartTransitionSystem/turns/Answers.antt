use Rattle.std.proofs.Common.{◌≡◌, ◌∙◌, List, [], ◌∷◌, ◌++◌, ap}
use Rattle.test_explore_search.specs.Apart.{apart_ways, first_turn, second_turn}
use Rattle.gt_explore_search.specs.declared.spaces.Turn.{Turn}
use Rattle.test_explore_search.proofs.Pulling.{first-enough, second-enough}
use Rattle.test_explore_search.proofs.apart.ApartTransitionSystem.turns.Goals.{then-state-self+in_ok-push, else-state-self+in_ok-push-2}
use Rattle.test_explore_search.proofs.apart.ApartTransitionSystem.turns.Goals as goal

pub returns : goal.returns
returns c = elim c.if-state-self.branch [
  | then-state-self+in_ok-push w ↦ first-enough c.args.self.now c.args.state.now c.if-state-self.turns.items w.if-state-self.true
      (ap (λ v. v.items) w.turns-is ∙ w.in_ok-push.ensures.items ∙ ap (λ (l : List Turn). l ++ first_turn ∷ []) c.new-turns.ensures.items)
  | else-state-self+in_ok-push-2 w ↦ second-enough c.args.self.now c.args.state.now c.if-state-self.turns.items w.if-state-self.false
      (ap (λ v. v.items) w.turns-is ∙ w.in_ok-push-2.ensures.items ∙ ap (λ (l : List Turn). l ++ second_turn ∷ []) c.new-turns.ensures.items)
]
