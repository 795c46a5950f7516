use Rattle.std.proofs.Common.{◌≡◌, map, take}
use Rattle.gt_explore_verdict.specs.Formulas.{formula_asked, satisfies}
use Rattle.gt_explore_answers.specs.Texts.{texts_of_orders}
use Rattle.gt_explore_answers.proofs.conditions.satisfied.Given as goal

abbrev pub invariant-texts : goal.invariant-texts
invariant-texts l = l.met.items ≡ map (satisfies (formula_asked l.conditions)) (texts_of_orders (take l.order-index l.texts))
