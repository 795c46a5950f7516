use Rattle.std.proofs.Common.{◌≡◌, arith, length, refl, subst, sym, Some}
use Rattle.gt_explore_search.specs.Parts.{Extends, IsStateAt, by_numbers}
use Rattle.gt_explore_search.proofs.Numbering.{extends-on, grown-between, hand-none, joined-alike, moves, moves-nowhere}
use Rattle.gt_explore_search.proofs.Trying.{made_new, made_of, made_on, new_there, steps_nowhere, with_states}
use Rattle.gt_explore_search.proofs.exploring.Explorer.make.Goals as goal

pub returns-then-leads_nowhere-clause-hand : goal.returns-then-leads_nowhere-clause-hand
returns-then-leads_nowhere-clause-hand g c = λ all more.
    hand-none (g.S.TransitionSystem.ways c.args.space.now) (g.S.TransitionSystem.parts c.args.space.now) all c.args.self.now.states.met c.take.new.hand c.in_ok-world.ensures.hand

pub returns-then-leads_nowhere-clause-steps : goal.returns-then-leads_nowhere-clause-steps
returns-then-leads_nowhere-clause-steps g c = λ all more holds visit hand at.
    let here = c.in_ok-world.ensures.state all more hand in
    let nowhere = c.leads_nowhere.ensures c.if-leads_nowhere.true in
    steps_nowhere (by_numbers (g.S.TransitionSystem.ways c.args.space.now) (g.S.TransitionSystem.parts c.args.space.now) all) c.args.self.now c.args.visit.now c.args.turn here.0 here.0 here.0 c.in_ok-led.led c.saturating_add-visit.result holds visit at
    here.1 (λ p shows. shows)
    (moves-nowhere (g.S.TransitionSystem.ways c.args.space.now) (g.S.TransitionSystem.parts c.args.space.now) all here.0 c.in_ok-world.world c.advance.new.state c.args.turn c.in_ok-led.led here.0 here.2 c.in_ok-led.ensures nowhere)
    nowhere (omega (arith, c.saturating_add-visit.ensures))

pub returns-then-state-met-clause-grows : goal.returns-then-state-met-clause-grows
returns-then-state-met-clause-grows g c = grown-between c.args.self.now.states c.line.new.self.states c.number.new.self c.visit.new.self.states c.in_ok-line.ensures.states c.in_ok-state.ensures.grows c.in_ok-deeper.ensures.states

pub returns-then-state-met-clause-hand : goal.returns-then-state-met-clause-hand
returns-then-state-met-clause-hand g c = λ all more.
    let grown = subst (λ s. Extends s.parts.kept.items all) c.in_ok-deeper.ensures.states more in
    let numbered = c.in_ok-state.ensures.number all grown in
    let last : c.in_ok-state.state ≡ length c.line.new.self.states.met = omega (arith, c.if-state-met.true, c.len-met.ensures) in
    subst (λ s. IsStateAt (g.S.TransitionSystem.ways c.args.space.now) (g.S.TransitionSystem.parts c.args.space.now) all s.met c.in_ok-state.state c.advance.new.state) (sym c.in_ok-deeper.ensures.states) (
      numbered.0,
      new_there (by_numbers (g.S.TransitionSystem.ways c.args.space.now) (g.S.TransitionSystem.parts c.args.space.now) all) c.line.new.self.states.met numbered.0 c.in_ok-state.state c.number.new.self.met numbered.2 last,
      joined-alike (g.S.TransitionSystem.ways c.args.space.now) (g.S.TransitionSystem.parts c.args.space.now) all numbered.0 c.advance.new.state c.alike.ensures numbered.1,
    )

pub returns-then-state-met-clause-steps : goal.returns-then-state-met-clause-steps
returns-then-state-met-clause-steps g c = λ all more holds visit hand at.
    let grown = subst (λ s. Extends s.parts.kept.items all) c.in_ok-deeper.ensures.states more in
    let first = extends-on c.args.self.now.states.parts.kept.items c.number.new.self.parts.kept.items all
    (grown-between c.args.self.now.states c.line.new.self.states c.number.new.self c.number.new.self c.in_ok-line.ensures.states c.in_ok-state.ensures.grows refl) grown in
    let here = c.in_ok-world.ensures.state all first hand in
    let numbered = c.in_ok-state.ensures.number all grown in
    let last : c.in_ok-state.state ≡ length c.line.new.self.states.met = omega (arith, c.if-state-met.true, c.len-met.ensures) in
    let step = made_on (by_numbers (g.S.TransitionSystem.ways c.args.space.now) (g.S.TransitionSystem.parts c.args.space.now) all) c.args.self.now c.line.new.self c.number.new.self c.args.visit.now c.args.turn here.0 numbered.0 c.in_ok-led.led c.in_ok-line.line
    c.in_ok-state.state holds visit at here.1
    (moves (g.S.TransitionSystem.ways c.args.space.now) (g.S.TransitionSystem.parts c.args.space.now) all here.0 numbered.0 c.in_ok-world.world c.advance.new.state c.args.turn c.in_ok-led.led here.2 c.in_ok-led.ensures numbered.1)
    c.in_ok-line.ensures numbered.2 in
    made_new (by_numbers (g.S.TransitionSystem.ways c.args.space.now) (g.S.TransitionSystem.parts c.args.space.now) all) c.args.self.now (with_states c.line.new.self c.number.new.self) c.visit.new.self (record c.args.visit.now { made = Some (made_of c.in_ok-state.state c.in_ok-line.line) }) c.in_ok-deeper.deeper holds step
    (c.in_ok-deeper.ensures.holds all step.holds (
      numbered.0,
      new_there (by_numbers (g.S.TransitionSystem.ways c.args.space.now) (g.S.TransitionSystem.parts c.args.space.now) all) c.line.new.self.states.met numbered.0 c.in_ok-state.state c.number.new.self.met numbered.2 last,
      joined-alike (g.S.TransitionSystem.ways c.args.space.now) (g.S.TransitionSystem.parts c.args.space.now) all numbered.0 c.advance.new.state c.alike.ensures numbered.1,
    ))

pub returns-clause-grows : goal.returns-clause-grows
returns-clause-grows g c = grown-between c.args.self.now.states c.line.new.self.states c.number.new.self c.number.new.self c.in_ok-line.ensures.states c.in_ok-state.ensures.grows refl

pub returns-clause-hand : goal.returns-clause-hand
returns-clause-hand g c = λ all more. hand-none (g.S.TransitionSystem.ways c.args.space.now) (g.S.TransitionSystem.parts c.args.space.now) all c.number.new.self.met c.take.new.hand c.in_ok-world.ensures.hand

pub returns-clause-steps : goal.returns-clause-steps
returns-clause-steps g c = λ all more holds visit hand at.
    let first = extends-on c.args.self.now.states.parts.kept.items c.number.new.self.parts.kept.items all
    (grown-between c.args.self.now.states c.line.new.self.states c.number.new.self c.number.new.self c.in_ok-line.ensures.states c.in_ok-state.ensures.grows refl) more in
    let here = c.in_ok-world.ensures.state all first hand in
    let numbered = c.in_ok-state.ensures.number all more in
    made_on (by_numbers (g.S.TransitionSystem.ways c.args.space.now) (g.S.TransitionSystem.parts c.args.space.now) all) c.args.self.now c.line.new.self c.number.new.self c.args.visit.now c.args.turn here.0 numbered.0 c.in_ok-led.led c.in_ok-line.line
    c.in_ok-state.state holds visit at here.1
    (moves (g.S.TransitionSystem.ways c.args.space.now) (g.S.TransitionSystem.parts c.args.space.now) all here.0 numbered.0 c.in_ok-world.world c.advance.new.state c.args.turn c.in_ok-led.led here.2 c.in_ok-led.ensures numbered.1)
    c.in_ok-line.ensures numbered.2
