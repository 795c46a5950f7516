use Rattle.std.proofs.Common.{arith}
use Rattle.gt_explore_races.proofs.Spaces.{grown-none, grown-on, races-more}
use Rattle.gt_explore_races.proofs.space.RaceSpace.push_races_of.Goals as goal

pub others-init : goal.others-init
others-init c = (grown-none c.args.self.now.scene c.args.turns.now.items, λ other lt below. absurd (omega arith))

pub others-preserved : goal.others-preserved
others-preserved c =
    let scene = c.args.self.now.scene in let w = c.args.state.now in
    let (grown, has) = c.others.invariant in
    let kept = c.in_ok-push_race.ensures.kept in (
      grown-on scene c.args.turns.now.items c.others.turns.items c.push_race.new.turns.items grown kept,
      races-more scene w c.args.first c.others.second c.others.turns.items c.push_race.new.turns.items has kept c.in_ok-push_race.ensures.listed,
    )

pub returns-clause-listed : goal.returns-clause-listed
returns-clause-listed c = λ other lt below.
    c.others.invariant.1 other lt (omega (arith, below, c.others-test.false, c.len-second-end.ensures, c.args.state.now.actors.ok.0))
