use Rattle.std.proofs.Common.{◌≡◌, ◌++◌, map}
use Rattle.gt_explore_answers.specs.Texts.{texts_of_orders}
use Rattle.gt_explore_precedence.proofs.showing.texts_of_found.Given as goal

-- the texts so far, and then those of the orders that are left, are all
abbrev pub invariant-orders : goal.invariant-orders
invariant-orders l = texts_of_orders l.texts.items ≡ map (λ t. t.text.items) l.yielded
