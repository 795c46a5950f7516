use Rattle.std.proofs.Common.{List, subst}
use Rattle.gt_explore_search.specs.declared.exploring.FoundText.{FoundText}
use Rattle.gt_script.specs.RunContents.{run_contents}
use Rattle.gt_explore_races.specs.Listing.{AreSmall, HasRacesOfTexts}
use Rattle.gt_explore_races.proofs.Saying.{each-listed}
use Rattle.gt_explore_races.proofs.searching.races_of.Goals as goal

pub returns-clause-races : goal.returns-clause-races
returns-clause-races c = λ is all.
    let races = c.in_ok-races.races in
    let small = subst AreSmall c.tasks.ensures c.lines_are_small.ensures in
    let said = subst (λ (l : List FoundText). HasRacesOfTexts l races.items) c.as_slice.ensures.value c.in_ok-races.ensures.said in
    record {
      ascending = c.in_ok-races.ensures.ascending;
      each = c.in_ok-races.ensures.each;
      all = λ whole. each-listed c.args.space.now.scene (run_contents c.args.script.now) is c.args.partial.found races.items c.every_order_has_turns.ensures (all whole) small said;
    }
