use Rattle.gt_explore_search.proofs.Numbering.{extends-self}
use Rattle.gt_explore_search.proofs.exploring.search.Goals as goal

pub returns : goal.returns
returns g c =
    let all = c.run.new.self.states.parts.kept.items in
    c.found.ensures all (c.in_ok-run.ensures all (extends-self all) (c.in_ok-explorer.ensures all))
