use Rattle.std.proofs.Common.{arith, rules}
use Rattle.std.specs.Prelude.{IsTrue}
use Rattle.gt_explore_races.proofs.Accessing.{over, shared}
use Rattle.gt_explore_races.proofs.accesses.overlap.Goals as goal

pub returns : goal.returns
returns c =
    let a = c.args.one in let b = c.args.other in
    let reaches : IsTrue c.reaches.result = search rules in (
      λ yes. shared a b (record {
        owner = omega (arith, c.if-one-other.false);
        frame = omega (arith, c.if-one-other-2.false);
        some = omega (arith, c.if-one-eq0.false);
        other = omega (arith, c.if-other-eq0.false);
        before = c.reaches.ensures.0 reaches;
        after = c.reaches-2.ensures.0 yes;
      }),
      λ both. c.reaches-2.ensures.1 (over a b both).after,
    )
