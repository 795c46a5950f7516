use Rattle.std.proofs.Common.{◌≡◌, drop}
use Rattle.gt_explore_verdict.specs.Placing.{call_on}
use Rattle.gt_explore_verdict.proofs.placing.call_on.Given as goal

abbrev pub invariant-calls : goal.invariant-calls
invariant-calls l = call_on l.number l.calls ≡ call_on l.number (drop l.call-index l.calls)
