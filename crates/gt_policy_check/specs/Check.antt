-- The findings of a text: that it is not a policy, or what is useless in it.
use Rattle.std.specs.Prelude.{◌≡◌, ℕ, Bool, true, false, not, ◌&&◌, List, [], ◌∷◌, ◌++◌, Ok, Err, map, filter}
use Rattle.std.specs.Prelude.{if◌then◌else◌, All}
use Rattle.std.specs.List.{list_any}
use Rattle.gt_types.specs.Names.{every_permission, permission_name}
use Rattle.gt_policy.specs.Allowing.{Meaning}
use Rattle.gt_policy.specs.Granting.{statement_grants}
use Rattle.gt_policy.specs.Lined.{IsLined, statements_in}
use Rattle.gt_policy.specs.Resolving.{has_grant}
use Rattle.gt_policy.specs.Spelling.{types_in}
use Rattle.gt_policy.specs.Whole.{ReadsAs}
use Rattle.gt_policy.specs.declared.fault.TokenFault.{TokenFault}
use Rattle.gt_policy.specs.declared.fault.TokenFaultKind.{TokenFaultKind}
use Rattle.gt_policy.specs.declared.fault.TokenFaultKind.TheVariants as token_fault_kinds
use Rattle.gt_policy.specs.declared.lined.LinedStatement.{LinedStatement}
use Rattle.gt_policy.specs.declared.statements.Statement.{Statement}
use Rattle.gt_policy.specs.declared.statements.Statement.TheVariants.{Allow, DeclareAttribute, DeclareType}
use Rattle.gt_policy.specs.declared.statements.Statement.TheVariants.{GiveAttributes}
use Rattle.gt_findings.specs.Columns.{IsColumnOf, IsEndOf}
use Rattle.gt_findings.specs.Findings.{HasColumn, error_columns, error_lines, nothing_lines, repeat_lines}
use Rattle.gt_findings.specs.declared.findings.Finding.{Finding}
use Rattle.gt_policy_statements.specs.Granting.{exceeds_some, gives_some}
use Rattle.gt_policy_statements.specs.declared.members.Member.{Member}

-- the statement grants some permission to some declared type on some declared type (SELinux policy language: allow)
abbrev pub grants_something : List LinedStatement → Statement → Bool
grants_something xs x = list_any
    (λ p. list_any
    (λ s. list_any (λ t. statement_grants (statements_in xs) s t (permission_name p) x) (types_in (statements_in xs)))
    (types_in (statements_in xs))) every_permission

-- an allow statement of class `grant` that grants nothing
abbrev pub allows_nothing : List LinedStatement → Statement → Bool
allows_nothing xs (DeclareType w ms) = false
allows_nothing xs (DeclareAttribute w) = false
allows_nothing xs (GiveAttributes m ms) = false
allows_nothing xs (Allow a) = has_grant a.classes && not (grants_something xs (Allow a))

-- y grants whatever x grants to a declared type on a declared type
abbrev pub grants_no_more : List LinedStatement → Statement → Statement → Bool
grants_no_more xs x y = not (list_any
    (λ p. list_any
    (λ s. list_any
    (λ t. statement_grants (statements_in xs) s t (permission_name p) x
    && not (statement_grants (statements_in xs) s t (permission_name p) y)) (types_in (statements_in xs)))
    (types_in (statements_in xs))) every_permission)

-- the statement grants something, and one of those before it grants all of that
abbrev pub repeats : List LinedStatement → List LinedStatement → Statement → Bool
repeats xs before x = grants_something xs x && list_any (λ y. grants_no_more xs x y.statement) before

-- the lines of those statements that repeat an earlier one
abbrev pub lines_repeated : List LinedStatement → List LinedStatement → List LinedStatement → List ℕ
lines_repeated xs before [] = []
lines_repeated xs before (y ∷ ys) =
    (if repeats xs before y.statement then y.line ∷ [] else []) ++ lines_repeated xs (before ++ y ∷ []) ys

-- the same, by the members
abbrev pub grants_with : List Member → Statement → Bool
grants_with members x = list_any (λ p. gives_some (permission_name p) members members x) every_permission

abbrev pub exceeds_with : List Member → Statement → Statement → Bool
exceeds_with members x y = list_any (λ p. exceeds_some (permission_name p) members x y) every_permission

abbrev pub no_more_with : List Member → Statement → Statement → Bool
no_more_with members x y = not (exceeds_with members x y)

abbrev pub some_no_more_with : List Member → List LinedStatement → Statement → Bool
some_no_more_with members before x = list_any (λ y. no_more_with members x y.statement) before

abbrev pub repeats_with : List Member → List LinedStatement → Statement → Bool
repeats_with members before x = grants_with members x && some_no_more_with members before x

abbrev pub repeat_line : List Member → List LinedStatement → LinedStatement → List ℕ
repeat_line members before x = if repeats_with members before x.statement then x.line ∷ [] else []

abbrev pub repeated_with : List Member → List LinedStatement → List LinedStatement → List ℕ
repeated_with members before [] = []
repeated_with members before (y ∷ ys) =
    repeat_line members before y ++ repeated_with members (before ++ y ∷ []) ys

abbrev pub is_useless_with : List Member → Statement → Bool
is_useless_with members (DeclareType w ms) = false
is_useless_with members (DeclareAttribute w) = false
is_useless_with members (GiveAttributes m ms) = false
is_useless_with members (Allow a) =
    has_grant a.classes && not (list_any (λ p. gives_some (permission_name p) members members (Allow a)) every_permission)

-- the line of a statement that allows nothing
abbrev pub useless_line : List Member → LinedStatement → List ℕ
useless_line members x = if is_useless_with members x.statement then x.line ∷ [] else []

-- The column of a fault on a line is that of the word which is wrong there. A fault of the syntax is after a token, and
-- one of the limits at the first column.
abbrev pub IsFaultColumn : List ℕ → ℕ → TokenFaultKind → ℕ → Type 0
IsFaultColumn text line token_fault_kinds.Syntax column = IsEndOf text line column
IsFaultColumn text line (token_fault_kinds.Unknown word) column = IsColumnOf text line word column
IsFaultColumn text line (token_fault_kinds.Twice word) column = IsColumnOf text line word column
IsFaultColumn text line (token_fault_kinds.Permission word) column = IsColumnOf text line word column
IsFaultColumn text line (token_fault_kinds.Outside word) column = IsColumnOf text line word column
IsFaultColumn text line token_fault_kinds.Limit column = column ≡ 1

-- there is one error, and its column is that of the fault
abbrev pub HasFaultColumn : List ℕ → TokenFault → List Finding → Type 0
HasFaultColumn text f found =
    (column : ℕ) × (error_columns found ≡ column ∷ []) × IsFaultColumn text f.line f.kind column

-- The findings of a text. A text that is not a policy has one error, at the line of its first fault. A policy has
-- none, and its findings include exactly the statements that allow nothing, and exactly those that repeat one.
pub data Judges (text : List ℕ) : List Finding → Type 0 where
  faulty : (f : TokenFault) (found : List Finding) → ReadsAs text (Err f) → error_lines found ≡ f.line ∷ []
      → HasFaultColumn text f found → All (HasColumn text) found → Judges text found
  sound : (m : Meaning) (xs : List LinedStatement) (found : List Finding) → ReadsAs text (Ok m) → IsLined text xs
      → error_lines found ≡ [] → nothing_lines found ≡ map (λ x. x.line) (filter (λ x. allows_nothing xs x.statement) xs)
      → repeat_lines found ≡ lines_repeated xs [] xs → All (HasColumn text) found → Judges text found
