use Rattle.std.proofs.Common.{arith}
use Rattle.gt_explore_races.proofs.Spaces.{domains-more, grown-none, grown-on}
use Rattle.gt_explore_races.proofs.space.RaceSpace.push_races.Goals as goal

pub domains-init : goal.domains-init
domains-init c = (grown-none c.args.self.now.scene c.args.turns.now.items, λ one below. absurd (omega arith))

pub domains-preserved : goal.domains-preserved
domains-preserved c =
    let scene = c.args.self.now.scene in let w = c.args.state.now in
    let (grown, has) = c.domains.invariant in
    let kept = c.in_ok-push_races_of.ensures.kept in (
      grown-on scene c.args.turns.now.items c.domains.turns.items c.push_races_of.new.turns.items grown kept,
      domains-more scene w c.domains.first c.domains.turns.items c.push_races_of.new.turns.items has kept c.in_ok-push_races_of.ensures.listed,
    )

pub returns-clause-listed : goal.returns-clause-listed
returns-clause-listed c = λ one below.
    c.domains.invariant.1 one (omega (arith, below, c.domains-test.false, c.len-first-end.ensures, c.args.state.now.actors.ok.0))
