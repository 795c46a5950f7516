use Rattle.std.proofs.Common.{◌∙◌, sym}
use Rattle.std.proofs.lemmas.Option.{none-some, same_Some}
use Rattle.gt_explore_races.proofs.Stepping.{conflict-between, race-between, step-at}
use Rattle.gt_explore_races.proofs.space.RaceSpace.race_between.Goals as goal

pub returns-in_default-clause-race : goal.returns-in_default-clause-race
returns-in_default-clause-race c = λ p k l shows race.
    absurd (none-some (step-at k race.first) (sym c.in_default.is ∙ c.next_step.ensures.next p k race.first shows race.first_next))

pub returns-in_default-next_step-clause-race : goal.returns-in_default-next_step-clause-race
returns-in_default-next_step-clause-race c = λ p k l shows race.
    absurd (none-some (step-at l race.second) (sym c.in_default-next_step.is ∙ c.next_step-2.ensures.next p l race.second shows race.second_next))

pub returns-then-conflict-clause-race : goal.returns-then-conflict-clause-race
returns-then-conflict-clause-race c = λ p k l shows race.
    let one = same_Some c.in-Some.one (step-at k race.first) (sym c.in-Some.is ∙ c.next_step.ensures.next p k race.first shows race.first_next) in
    let other = same_Some c.in-Some-next_step.other (step-at l race.second) (sym c.in-Some-next_step.is ∙ c.next_step-2.ensures.next p l race.second shows race.second_next) in
    race-between c.in-Some.one c.in-Some-next_step.other k l race.first race.second c.race_of.result one other c.race_of.ensures

pub returns-else-conflict-clause-race : goal.returns-else-conflict-clause-race
returns-else-conflict-clause-race c = λ p k l shows race.
    let one = same_Some c.in-Some.one (step-at k race.first) (sym c.in-Some.is ∙ c.next_step.ensures.next p k race.first shows race.first_next) in
    let other = same_Some c.in-Some-next_step.other (step-at l race.second) (sym c.in-Some-next_step.is ∙ c.next_step-2.ensures.next p l race.second shows race.second_next) in
    absurd (conflict-between c.in-Some.one c.in-Some-next_step.other k l race.first race.second c.conflict.result one other race.conflict c.conflict.ensures.1 c.if-conflict.false)
