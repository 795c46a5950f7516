use Rattle.gt_explore_search.specs.Parts.{Extends}
use Rattle.gt_explore_races.specs.Spaces.{HasRacesBelow}
use Rattle.gt_explore_races.proofs.space.RaceSpace.push_races.Given as goal

abbrev pub invariant-domains : goal.invariant-domains
invariant-domains l = Extends l.initial.turns.items l.turns.items × HasRacesBelow l.self.scene l.state l.first l.turns.items
