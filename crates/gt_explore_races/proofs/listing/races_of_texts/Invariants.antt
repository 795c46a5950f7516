use Rattle.std.proofs.Common.{take}
use Rattle.gt_script.specs.RunContents.{run_contents}
use Rattle.gt_explore_races.specs.Listing.{HasRacesOfTexts}
use Rattle.gt_explore_races.specs.Races.{EachRaces}
use Rattle.gt_explore_races.proofs.listing.races_of_texts.Given as goal

abbrev pub invariant-found : goal.invariant-found
invariant-found l = EachRaces (run_contents l.script) l.races.items × HasRacesOfTexts (take l.order-index l.found) l.races.items
