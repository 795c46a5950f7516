use Rattle.std.proofs.Common.{◌≡◌, ℕ, ◌+◌, ◌<◌, ◌==◌, get_or, length, take}
use Rattle.std.specs.Prelude.{count_by}
use Rattle.gt_findings.specs.Columns.{BeginsTextLine}
use Rattle.gt_findings.proofs.places.line_starts.Given as goal

abbrev pub invariant-bytes : goal.invariant-bytes
invariant-bytes l = record {
  each : (i : ℕ) → i < length l.starts.items → BeginsTextLine l.bytes (i + 1) (get_or l.starts.items i 0);
  many : length l.starts.items ≡ count_by (λ b. b == 10) (take l.place l.bytes) + 1;
}
