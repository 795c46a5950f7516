use Rattle.std.proofs.Common.{◌<◌, ◌≤◌, ℕ, get_or}
use Rattle.gt_frames.specs.Writers.{IsUsed, count_used}
use Rattle.gt_frames.proofs.writers.mark.Given as goal

abbrev pub invariant-bytes : goal.invariant-bytes
invariant-bytes l = (count_used l.used ≤ l.at) × ((k : ℕ) → k < l.at → IsUsed l.used (get_or l.numbers k 0))
