use Rattle.std.proofs.Common.{◌≡◌, rules}
use Rattle.std.proofs.lemmas.Iterator.{YieldsList-from_slice, cases_from_all}
use borrow.Author.Tests.{tests}
use Rattle.gt_explore_moves.proofs.RunLengths.{found-one-kind}
use Rattle.gt_explore_moves.proofs.flag_runs.are_all.Goals as goal

pub returns : goal.returns
returns c =
    let flags = c.args.flags.now in
    found-one-kind c.all.result _ flags c.args.is_raised
    (cases_from_all _ _ _ (λ x. x ≡ c.args.is_raised) (λ x. Unit {0}) c.all.ensures.ran (YieldsList-from_slice flags cc) (λ x q k. search (rules, tests)) (λ x q k. tt))
