use Rattle.std.proofs.Common.{◌≡◌, ℕ, ◌<◌, codes, get_or, length}
use Rattle.gt_policy.specs.declared.lined.LinedStatement.{LinedStatement}
use Rattle.gt_findings.specs.Columns.{IsColumnOf}
use Rattle.gt_policy_check.specs.AllowColumns.{IsAllowWalk}
use Rattle.gt_policy_check.proofs.allow_columns.statement_columns.Given as goal

abbrev pub invariant-statements : goal.invariant-statements
invariant-statements l = record {
  walk : IsAllowWalk l.bytes l.walk;
  many : length l.columns.items ≡ l.stated-index;
  each : (i : ℕ) (x : LinedStatement) → i < length l.columns.items
      → IsColumnOf l.bytes (get_or l.statements i x).line (codes "allow") (get_or l.columns.items i 0);
}
