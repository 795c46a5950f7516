use Rattle.std.proofs.Common.{◌≡◌, ℕ, ◌+◌, ◌<◌, get_or, length}
use Rattle.gt_findings.specs.Columns.{IsColumnOf}
use Rattle.gt_findings.proofs.columns.word_columns.Given as goal

abbrev pub invariant-lines : goal.invariant-lines
invariant-lines l = record {
  each : (i : ℕ) → i < length l.columns.items → IsColumnOf l.bytes (i + 1) l.word (get_or l.columns.items i 0);
  many : length l.columns.items ≡ l.line;
}
