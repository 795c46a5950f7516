use Rattle.std.proofs.Common.{rules, subst, sym, ◌∙◌}
use Rattle.std.specs.Prelude.{IsSome}
use Rattle.gt_explore_search.specs.Ways.{MovesTo}
use Rattle.gt_explore_search.specs.declared.spaces.TurnResult.{TurnResult}
use Rattle.gt_explore_races.specs.Spaces.{race_ways}
use Rattle.gt_explore_races.proofs.Spaces.{moves-over, moves-silent}
use Rattle.gt_explore_races.proofs.space.RaceSpaceTransitionSystem.advance.Goals as goal

pub returns-in_ok-led-in-None : goal.returns-in_ok-led-in-None
returns-in_ok-led-in-None c =
    let scene = c.args.self.now.scene in
    let new = c.advance.new.state in
    subst (λ (led : TurnResult). MovesTo (race_ways scene) c.args.state.now c.args.turn led new) (sym c.quieted.ensures)
    (moves-silent scene c.args.state.now c.args.turn c.in_ok-led-in-None.led new c.in_ok-led-in-None.ensures (λ p other k l shows choice race. sym c.in-None.is ∙ c.race_by.ensures.race p other k l shows choice race))

pub returns-in_ok-text-in-Some : goal.returns-in_ok-text-in-Some
returns-in_ok-text-in-Some c =
    let some : IsSome c.race_by.result = search rules in
    moves-over c.args.self.now.scene c.args.state.now c.args.turn c.in-Some.race c.in_ok-text-in-Some.text c.over.result c.in_ok-text-in-Some.ensures.text
    (λ p other k l shows choice race. sym c.in-Some.is ∙ c.race_by.ensures.race p other k l shows choice race)
    (λ p q shows next. c.race_by.ensures.none some p q shows next)
