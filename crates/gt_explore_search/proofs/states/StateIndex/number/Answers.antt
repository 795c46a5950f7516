use Rattle.gt_explore_search.proofs.Numbering.{is-numbered, numbers-grown}
use Rattle.std.proofs.Common.{subst, List, ℕ}
use Rattle.gt_explore_search.specs.Numbers.{IsKeptAs}
use Rattle.gt_explore_search.proofs.states.StateIndex.number.Goals as goal

pub returns-clause-number : goal.returns-clause-number
returns-clause-number g c = λ all more. (
  c.in_ok-numbers.numbers.items,
  numbers-grown (g.S.TransitionSystem.parts c.args.space.now) c.numbers.new.self.kept.items all ((g.S.TransitionSystem.parts c.args.space.now).of c.args.state.now) c.in_ok-numbers.numbers.items more c.in_ok-numbers.ensures.numbers,
  is-numbered (g.S.TransitionSystem.ways c.args.space.now) (g.S.TransitionSystem.parts c.args.space.now) all c.args.self.now.met c.in_ok-numbers.numbers.items c.in_ok-number.number c.number_of.new.self
      (subst (λ (l : List ℕ). IsKeptAs c.args.self.now.met l c.in_ok-number.number c.number_of.new.self) c.as_slice-2.ensures.value c.in_ok-number.ensures),
)
