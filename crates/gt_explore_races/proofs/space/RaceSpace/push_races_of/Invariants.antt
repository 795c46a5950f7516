use Rattle.gt_explore_search.specs.Parts.{Extends}
use Rattle.gt_explore_races.specs.Spaces.{HasRacesOf}
use Rattle.gt_explore_races.proofs.space.RaceSpace.push_races_of.Given as goal

abbrev pub invariant-others : goal.invariant-others
invariant-others l = Extends l.initial.turns.items l.turns.items × HasRacesOf l.self.scene l.state l.first l.second l.turns.items
