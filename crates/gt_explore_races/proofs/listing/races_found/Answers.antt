use Rattle.gt_script.specs.RunContents.{run_contents}
use Rattle.gt_explore_races.proofs.Saying.{each-sorted, said-sorted}
use Rattle.gt_explore_races.proofs.Sorting.{ascending-once, each-once, said-once}
use Rattle.gt_explore_races.proofs.listing.races_found.Goals as goal

pub returns-clause-ascending : goal.returns-clause-ascending
returns-clause-ascending c = ascending-once c.sort.new.self.items c.dedup.new.self.items c.dedup.ensures.filtered c.in_ok-sort.ensures.sorted

pub returns-clause-each : goal.returns-clause-each
returns-clause-each c =
    let d = run_contents c.args.script.now in
    each-once c.sort.new.self.items c.dedup.new.self.items c.dedup.ensures.filtered d (each-sorted d c.in_ok-races.races.items c.sort.new.self.items c.sort.ensures.permutation c.in_ok-races.ensures.each)

pub returns-clause-said : goal.returns-clause-said
returns-clause-said c =
    said-once c.sort.new.self.items c.dedup.new.self.items c.dedup.ensures.filtered c.args.found.now
    (said-sorted c.args.found.now c.in_ok-races.races.items c.sort.new.self.items c.sort.ensures.permutation c.in_ok-races.ensures.said)
