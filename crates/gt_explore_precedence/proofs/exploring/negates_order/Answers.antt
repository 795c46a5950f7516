use Rattle.std.proofs.Common.{rules, tests, ◌∙◌, Bor, List, ℕ}
use Rattle.std.proofs.lemmas.Iterator.{YieldsList-from_slice}
use Rattle.std.proofs.lemmas.Iterator.Search.{any_from_yields_List}
use Rattle.gt_explore_precedence.specs.Exploring.{is_negated_order}
use Rattle.gt_explore_precedence.proofs.OrdersAnswered.{any_mapped}
use Rattle.gt_explore_precedence.proofs.exploring.negates_order.Goals as goal

pub returns : goal.returns
returns c =
    any_from_yields_List (λ (part : Bor (List ℕ)). is_negated_order part.now) _ _ _ c.any.ensures.ran
    (YieldsList-from_slice c.args.parts.now c.iter.ensures.rest) (λ x b q k. search (rules, tests))
    ∙ any_mapped is_negated_order (λ (part : Bor (List ℕ)). part.now) c.args.parts.now
