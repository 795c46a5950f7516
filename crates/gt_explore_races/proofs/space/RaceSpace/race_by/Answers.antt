use Rattle.std.proofs.Common.{◌≡◌, ◌-◌, ℕ, arith, subst}
use Rattle.gt_explore_races.specs.Spaces.{AreToRace}
use Rattle.gt_explore_races.proofs.space.RaceSpace.race_by.Goals as goal

pub returns-clause-race : goal.returns-clause-race
returns-clause-race c = λ p other k l shows choice race.
    let before : other ≡ c.args.turn.choice - 1 = omega (arith, choice) in
    c.race_between.ensures.race p k l shows (subst (λ (n : ℕ). AreToRace p c.args.turn.place n k l) before race)

pub returns-clause-none : goal.returns-clause-none
returns-clause-none c = λ some p q shows next.
    let none : c.args.turn.choice ≡ 0 = c.race_between.ensures.one some p q c.args.turn.choice shows next in
    absurd (omega (arith, none))
