use Rattle.std.proofs.Common.{◌==◌, rules, tests}
use Rattle.std.proofs.lemmas.Iterator.{YieldsList-from_slice}
use Rattle.std.proofs.lemmas.Iterator.Search.{position_from_yields_List}
use Rattle.gt_explore_witness.proofs.Compared.{after_no_space, after_space}
use Rattle.gt_explore_witness.proofs.checked.without_number.Goals as goal

pub returns-in-Some : goal.returns-in-Some
returns-in-Some c =
    after_space c.args.line.now c.position.result c.in-Some.at
    (position_from_yields_List (λ b. b == 32) _ _ _ c.position.ensures.ran (YieldsList-from_slice c.args.line.now (cc)) (λ x b q k. search (rules, tests)))
    c.in-Some.is

pub returns-in-None : goal.returns-in-None
returns-in-None c =
    after_no_space c.args.line.now c.position.result
    (position_from_yields_List (λ b. b == 32) _ _ _ c.position.ensures.ran (YieldsList-from_slice c.args.line.now (cc)) (λ x b q k. search (rules, tests)))
    c.in-None.is
