use Rattle.std.proofs.Common.{◌≡◌, ◌+◌, arith}
use Rattle.gt_script.proofs.PrecedingLemmas.{preceding-counts}
use Rattle.gt_script.proofs.run_script.RunScript.preceding.Goals as goal

pub returns-clause-numbered : goal.returns-clause-numbered
returns-clause-numbered c =
    let next : c.in-Some.count ≡ c.self.inside.flags + 1 = let e = c.in-Some.ensures in omega (arith, e) in
    rw (← c.self.view_is) (preceding-counts c.self.inside.flags c.in-Some.count c.args.lines c.self.inside.tasks.items c.in_ok-tasks.tasks.items next c.in_ok-tasks.ensures)
