use Rattle.std.proofs.Common.{List, [], ℕ, subst, sym}
use Rattle.gt_explore_search.specs.Parts.{HasNumber, Pairwise}
use Rattle.gt_explore_search.proofs.Numbering.{extends-on, extends-self, number-step, numbers-all}
use Rattle.gt_explore_search.proofs.parts.PartIndex.numbers.Goals as goal

pub parts-init : goal.parts-init
parts-init g c = record { numbers = subst (λ (l : List ℕ). Pairwise (HasNumber (g.S.TransitionSystem.parts c.args.space.now) c.args.self.now.kept.items) [] l) (sym c.in_ok-numbers.ensures.items) tt; grows = extends-self c.args.self.now.kept.items }

pub parts-preserved : goal.parts-preserved
parts-preserved g c = record {
  numbers = number-step (g.S.TransitionSystem.parts c.args.space.now) c.parts.self.kept.items c.number_near.new.self.kept.items c.args.state.now c.parts.numbers.items c.push.new.self.items c.parts.at c.in_ok-number_near.field-0
      c.parts.invariant.numbers c.in_ok-number_near.ensures.number c.in_ok-number_near.ensures.grows c.in_ok-push.ensures.items;
  grows = extends-on c.args.self.now.kept.items c.parts.self.kept.items c.number_near.new.self.kept.items c.parts.invariant.grows c.in_ok-number_near.ensures.grows;
}

pub returns-then-is_past-clause-numbers : goal.returns-then-is_past-clause-numbers
returns-then-is_past-clause-numbers g c = numbers-all (g.S.TransitionSystem.parts c.args.space.now) c.parts.self.kept.items c.args.state.now c.parts.numbers.items c.parts.at (c.is_past.ensures c.if-is_past.true) c.parts.invariant.numbers
