-- The columns at which allow statements begin.
use Rattle.std.specs.Prelude.{◌≡◌, ℕ, ◌<◌, List, codes, length, slice_index, slice_index_or}
use Rattle.gt_policy.specs.declared.lined.LinedStatement.{LinedStatement}
use Rattle.gt_findings.specs.Columns.{AreOfLine, IsColumnOf}
use Rattle.gt_policy_check.specs.declared.allow_columns.Walk.{Walk}

-- each column is that of a word `allow` on the line of the statement
pub record AreStatementColumns (text : List ℕ) (xs : List LinedStatement) (columns : List ℕ) : Type 0 where
  pub many : length columns ≡ length xs
  pub each : (i : ℕ) (x : LinedStatement) → i < length xs
      → IsColumnOf text (slice_index_or xs i x).line (codes "allow") (slice_index columns i)

-- a walk is at a line, with the column of a word `allow` there
pub record IsAllowWalk (text : List ℕ) (walk : Walk) : Type 0 where
  pub line : AreOfLine text walk.line
  pub column : IsColumnOf text walk.line.number (codes "allow") walk.column
