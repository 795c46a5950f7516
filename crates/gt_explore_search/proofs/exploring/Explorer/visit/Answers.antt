use Rattle.std.proofs.Common.{rules, refl}
use Rattle.gt_explore_search.specs.Parts.{by_numbers}
use Rattle.gt_explore_search.proofs.Numbering.{enough, may-end}
use Rattle.gt_explore_search.proofs.Trying.{not_both, visits_end, visits_on}
use Rattle.gt_explore_search.proofs.exploring.Explorer.visit.Goals as goal

pub returns-clause-holds : goal.returns-clause-holds
returns-clause-holds g c = λ all holds here.
    visits_end (by_numbers (g.S.TransitionSystem.ways c.args.space.now) (g.S.TransitionSystem.parts c.args.space.now) all) c.args.self.now c.push.new.self c.note.new.marks _ c.note.new.self here.0 c.in_ok-push.ensures.items
    here.1 (enough (g.S.TransitionSystem.ways c.args.space.now) (g.S.TransitionSystem.parts c.args.space.now) all here.0 c.args.world.now c.in_ok-turns.field-0.items here.2 c.in_ok-turns.ensures)
    refl refl c.new-2.ensures.items c.in_ok-note.ensures holds

pub returns-then-not-is_finished-clause-holds : goal.returns-then-not-is_finished-clause-holds
returns-then-not-is_finished-clause-holds g c = λ all holds here.
    visits_on (by_numbers (g.S.TransitionSystem.ways c.args.space.now) (g.S.TransitionSystem.parts c.args.space.now) all) c.args.self.now c.push.new.self c.args.self.now.marks _ here.0 c.in_ok-push.ensures.items
    here.1 (enough (g.S.TransitionSystem.ways c.args.space.now) (g.S.TransitionSystem.parts c.args.space.now) all here.0 c.args.world.now c.in_ok-turns.field-0.items here.2 c.in_ok-turns.ensures)
    refl refl c.new-2.ensures.items
    (λ may. not_both c.is_finished.result (c.is_finished.ensures (may-end (g.S.TransitionSystem.ways c.args.space.now) (g.S.TransitionSystem.parts c.args.space.now) all here.0 c.args.world.now here.2 may)) (search rules)) holds
