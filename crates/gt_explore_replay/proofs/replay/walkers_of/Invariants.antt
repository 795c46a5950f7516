use Rattle.std.proofs.Common.{◌≡◌, take, map}
use Rattle.std.specs.Prelude.{All}
use Rattle.gt_explore_replay.specs.Walking.{StartsWalk}
use Rattle.gt_explore_replay.proofs.replay.walkers_of.Given as goal

abbrev pub invariant-domains : goal.invariant-domains
invariant-domains l =
    (map (λ w. w.dom) l.walkers.items ≡ map (λ d. d.id) (take l.domain-index l.domains))
    × All (StartsWalk l.script.tasks) l.walkers.items
