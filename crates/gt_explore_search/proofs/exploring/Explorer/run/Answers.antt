use Rattle.std.proofs.Common.{subst, sym, IfNone, OnOk}
use Rattle.gt_explore_search.specs.Exploring.{SearchFinishes}
use Rattle.gt_explore_search.specs.Parts.{by_numbers}
use Rattle.gt_explore_search.proofs.exploring.Explorer.run.Goals.{in-Some, in-None}
use Rattle.gt_explore_search.proofs.exploring.Explorer.run.Goals as goal

pub returns : goal.returns
returns g c = λ all more starts.
    let ways = by_numbers (g.S.TransitionSystem.ways c.args.space.now) (g.S.TransitionSystem.parts c.args.space.now) all in
    let done = c.in_ok-run_within.ensures all more starts in
    elim c.match-branch-2.branch [
      | in-Some w ↦ subst (λ r. OnOk r (SearchFinishes ways c.run_within.new.self)) (sym w.result-is) tt
      | in-None w ↦ subst (λ r. OnOk r (SearchFinishes ways c.run_within.new.self)) (sym w.result-is)
          (subst (λ o. IfNone o (SearchFinishes ways c.run_within.new.self)) w.in-None.is done)
    ]
