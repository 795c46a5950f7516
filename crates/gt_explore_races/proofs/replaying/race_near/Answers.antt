use Rattle.std.proofs.Common.{rules, subst, sym}
use Rattle.std.specs.Prelude.{IsTrue}
use Rattle.gt_script.specs.RunContents.{run_contents}
use Rattle.gt_explore_races.specs.Races.{Races}
use Rattle.gt_explore_races.proofs.Remade.{race-of}
use Rattle.gt_explore_races.proofs.Saying.{in-either}
use Rattle.gt_explore_races.proofs.replaying.race_near.Goals as goal

pub returns : goal.returns
returns c = λ at.
    let d = run_contents c.args.script.now in
    let yes : IsTrue c.in_ok-races.field-0 = search rules in
    let next = c.in_ok-races.ensures d at.happened at.walked yes in
    let race = race-of d c.args.first c.args.second c.args.near c.in-Some.line c.in-Some-2.other c.requires at next (rw c.in-Some.is at c.in_ok-line.ensures) (rw c.in-Some-2.is at c.in_ok-other.ensures) in
    subst (Races d) (sym c.race_of.ensures) (in-either d c.in-Some.line c.in-Some-2.other race)
