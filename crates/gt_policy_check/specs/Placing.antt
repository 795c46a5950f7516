-- What is known of a policy before its findings are made, and of the explanation of a fault.
use Rattle.std.specs.Prelude.{◌≡◌, IfSome, List, Some, ℕ}
use Rattle.gt_policy.specs.Shown.{fault_shown}
use Rattle.gt_policy.specs.declared.fault.TokenFault.{TokenFault}
use Rattle.gt_policy.specs.declared.parse.PolicyFault.{PolicyFault}
use Rattle.gt_findings.specs.Columns.{AreStarts}
use Rattle.gt_findings.specs.Placing.{HasNoteColumn}
use Rattle.gt_policy_check.specs.AllowColumns.{AreStatementColumns}
use Rattle.gt_policy_check.specs.Check.{IsFaultColumn}
use Rattle.gt_policy_check.specs.declared.domains.Judged.{Judged}
use Rattle.gt_policy_check.specs.declared.fault.Explained.{Explained}

-- a policy has where the lines of its text begin, and the columns of its statements
pub record IsLinedPolicy (policy : Judged) : Type 0 where
  pub starts : AreStarts policy.bytes.now policy.lines.now.starts.items
  pub columns : AreStatementColumns policy.bytes.now policy.statements.now policy.columns.now

-- the column and the note are those of the fault of a text
pub record IsOfFault (text : List ℕ) (fault : PolicyFault) (explained : Explained) : Type 0 where
  pub column : (f : TokenFault) → fault_shown fault ≡ Some f → IsFaultColumn text f.line f.kind explained.column
  pub note : IfSome explained.note (HasNoteColumn text)
