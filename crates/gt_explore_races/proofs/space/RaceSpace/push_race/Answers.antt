use Rattle.std.proofs.Common.{◌∙◌, sym}
use Rattle.std.proofs.lemmas.Option.{none-some}
use Rattle.gt_explore_races.specs.Texts.{race_of}
use Rattle.gt_explore_races.proofs.Spaces.{pushed}
use Rattle.gt_explore_races.proofs.space.RaceSpace.push_race.Goals as goal

pub returns-in-None-clause-listed : goal.returns-in-None-clause-listed
returns-in-None-clause-listed c = λ p k l shows race.
    absurd (none-some (race_of k l) (sym c.in-None.is ∙ c.race_between.ensures.race p k l shows race))

pub returns-in_ok-push-in-Some-clause-listed : goal.returns-in_ok-push-in-Some-clause-listed
returns-in_ok-push-in-Some-clause-listed c =
    (pushed c.args.self.now.scene c.args.state.now c.args.first c.args.second c.args.turns.now.items c.push.new.self.items c.in_ok-push-in-Some.ensures.items).1
