use Rattle.std.proofs.Common.{arith}
use Rattle.gt_explore_search.specs.Parts.{by_numbers}
use Rattle.gt_explore_search.proofs.Trying.{back_on, leads_done}
use Rattle.gt_explore_search.proofs.exploring.Explorer.back.Goals as goal

pub returns-clause-steps : goal.returns-clause-steps
returns-clause-steps g c = λ all holds visit at is.
    let leads = leads_done (by_numbers (g.S.TransitionSystem.ways c.args.space.now) (g.S.TransitionSystem.parts c.args.space.now) all) c.args.self.now c.args.visit.now c.args.turn c.args.made c.in-Some.node holds visit at is c.in-Some.ensures in
    back_on (by_numbers (g.S.TransitionSystem.ways c.args.space.now) (g.S.TransitionSystem.parts c.args.space.now) all) c.args.self.now c.gather.new.self c.args.visit.now c.gather.new.visit c.args.turn c.push.new.self c.saturating_add-visit.result at
    (c.in_ok-gather.ensures.gathered all c.args.turn holds visit leads.0 leads.1) (omega (arith, c.saturating_add-visit.ensures))
