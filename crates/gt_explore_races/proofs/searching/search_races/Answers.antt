use Rattle.std.proofs.Common.{List, false, subst, sym}
use Rattle.gt_script.specs.RunContents.{run_contents}
use Rattle.gt_explore_races.proofs.Saying.{none-found}
use Rattle.gt_explore_races.specs.Races.{AreRacesOf}
use Rattle.gt_explore_races.specs.declared.racing.Race.{Race}
use Rattle.gt_explore_races.proofs.searching.search_races.Goals as goal

pub returns-in-Err-Memory-clause-races : goal.returns-in-Err-Memory-clause-races
returns-in-Err-Memory-clause-races g c =
    let d = run_contents c.args.script.now in
    subst (λ (l : List Race). AreRacesOf d false l) (sym c.new-in-Err-Memory.ensures.items) (none-found d)
