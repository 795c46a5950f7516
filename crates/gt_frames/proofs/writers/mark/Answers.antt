use Rattle.std.proofs.Common.{◌≤◌, ◌+◌, ◌-◌, ap, arith, rules}
use Rattle.gt_frames.specs.Writers.{count_used}
use Rattle.gt_frames.proofs.Stretches.{one_more_used}
use Rattle.gt_frames.proofs.writers.mark.Goals.{then-number-gt0, else-number-gt0}
use Rattle.gt_frames.proofs.writers.mark.Goals as goal

pub bytes-preserved : goal.bytes-preserved
bytes-preserved c =
    let few : count_used c.if-number-gt0.used ≤ c.bytes.at + 1 = elim c.if-number-gt0.branch [
      | then-number-gt0 w ↦ let one = one_more_used c.bytes.used (c.from-number.result - 1) in omega (arith, ap count_used w.used-is, one, c.bytes.invariant.0)
      | else-number-gt0 w ↦ omega (arith, ap count_used w.used-is, c.bytes.invariant.0)
    ] in
    (few, search rules)
