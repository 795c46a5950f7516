use Rattle.std.proofs.Common.{◌≡◌, ℕ, ◌<◌, get_or, true}
use Rattle.gt_findings.specs.Columns.{continues_token}
use Rattle.gt_findings.proofs.places.token_end.Given as goal

abbrev pub invariant-bytes : goal.invariant-bytes
invariant-bytes l = (k : ℕ) → l.fn.start < k → k < l.place → continues_token (get_or l.line l.fn.start 0) (get_or l.line k 0) ≡ true
