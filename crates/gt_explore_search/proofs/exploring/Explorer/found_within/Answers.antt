use Rattle.std.proofs.Common.{subst, IfNone}
use Rattle.std.proofs.lemmas.Result.{IfOk-weaker}
use Rattle.gt_explore_search.specs.Exploring.{SearchFinishes}
use Rattle.gt_explore_search.specs.Parts.{by_numbers}
use Rattle.gt_explore_search.proofs.Trying.{not_both}
use Rattle.gt_explore_search.proofs.exploring.Explorer.found_within.Goals as goal

pub returns-in-Some : goal.returns-in-Some
returns-in-Some g c = λ all more starts. IfOk-weaker c.found_until.result _ _ (λ partial no is. absurd (not_both partial.whole is no)) c.found_until.ensures

pub returns-in_ok-found-in-None : goal.returns-in_ok-found-in-None
returns-in_ok-found-in-None g c = λ all more starts yes.
    c.in_ok-found-in-None.ensures all
    (subst (λ o. IfNone o (SearchFinishes (by_numbers (g.S.TransitionSystem.ways c.args.space.now) (g.S.TransitionSystem.parts c.args.space.now) all) c.run_within.new.self)) c.in-None.is (c.in_ok-stack.ensures all more starts))
