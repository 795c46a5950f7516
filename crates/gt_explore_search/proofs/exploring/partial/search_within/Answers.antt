use Rattle.gt_explore_search.proofs.Numbering.{extends-self}
use Rattle.gt_explore_search.proofs.exploring.partial.search_within.Goals as goal

pub returns : goal.returns
returns g c =
    let all = c.found_within.new.self.states.parts.kept.items in
    c.found_within.ensures all (extends-self all) (c.in_ok-explorer.ensures all)
