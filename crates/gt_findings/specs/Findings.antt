-- Findings: their kinds, their lines, and the columns that they have.
use Rattle.std.specs.Prelude.{◌≡◌, ◌⊎◌, ℕ, Bool, true, false, List, [], ◌∷◌, ◌++◌, codes, if◌then◌else◌, All}
use Rattle.std.specs.List.{flat_map}
use Rattle.gt_findings.specs.Columns.{IsColumnOf}
use Rattle.gt_findings.specs.Report.{shown_word}
use Rattle.gt_findings.specs.declared.findings.Finding.{Finding}
use Rattle.gt_findings.specs.declared.findings.FindingKind.{FindingKind}
use Rattle.gt_findings.specs.declared.findings.FindingKind.TheVariants.{AllowsNothing, AlwaysRefused, Fault, NeverAsked}
use Rattle.gt_findings.specs.declared.findings.FindingKind.TheVariants.{NeverMapped, NeverMatters, NeverNamed, NoDomain}
use Rattle.gt_findings.specs.declared.findings.FindingKind.TheVariants.{NoStatement, Note, OtherClass, OtherPermission}
use Rattle.gt_findings.specs.declared.findings.FindingKind.TheVariants.{Repeats}

-- the finding is an error
abbrev pub is_error : FindingKind → Bool
is_error Fault = true
is_error OtherClass = false
is_error OtherPermission = false
is_error AllowsNothing = false
is_error NeverAsked = false
is_error Repeats = false
is_error NeverNamed = false
is_error NoDomain = false
is_error NeverMatters = false
is_error NeverMapped = false
is_error NoStatement = false
is_error AlwaysRefused = false
is_error Note = false

-- the finding is a statement that allows nothing
abbrev pub is_of_nothing : FindingKind → Bool
is_of_nothing Fault = false
is_of_nothing OtherClass = false
is_of_nothing OtherPermission = false
is_of_nothing AllowsNothing = true
is_of_nothing NeverAsked = false
is_of_nothing Repeats = false
is_of_nothing NeverNamed = false
is_of_nothing NoDomain = false
is_of_nothing NeverMatters = false
is_of_nothing NeverMapped = false
is_of_nothing NoStatement = false
is_of_nothing AlwaysRefused = false
is_of_nothing Note = false

-- the finding is a statement that repeats an earlier one
abbrev pub is_of_repeat : FindingKind → Bool
is_of_repeat Fault = false
is_of_repeat OtherClass = false
is_of_repeat OtherPermission = false
is_of_repeat AllowsNothing = false
is_of_repeat NeverAsked = false
is_of_repeat Repeats = true
is_of_repeat NeverNamed = false
is_of_repeat NoDomain = false
is_of_repeat NeverMatters = false
is_of_repeat NeverMapped = false
is_of_repeat NoStatement = false
is_of_repeat AlwaysRefused = false
is_of_repeat Note = false

-- the finding is about an allow statement
abbrev pub is_of_statement : FindingKind → Bool
is_of_statement Fault = false
is_of_statement OtherClass = false
is_of_statement OtherPermission = false
is_of_statement AllowsNothing = true
is_of_statement NeverAsked = false
is_of_statement Repeats = true
is_of_statement NeverNamed = false
is_of_statement NoDomain = false
is_of_statement NeverMatters = true
is_of_statement NeverMapped = false
is_of_statement NoStatement = false
is_of_statement AlwaysRefused = false
is_of_statement Note = false

-- the kind of a finding about a word that its message quotes
abbrev pub is_of_word : FindingKind → Bool
is_of_word Fault = false
is_of_word OtherClass = true
is_of_word OtherPermission = true
is_of_word AllowsNothing = false
is_of_word NeverAsked = true
is_of_word Repeats = false
is_of_word NeverNamed = true
is_of_word NoDomain = true
is_of_word NeverMatters = false
is_of_word NeverMapped = false
is_of_word NoStatement = false
is_of_word AlwaysRefused = false
is_of_word Note = false

-- the finding is a class that Xen's FLASK policy does not have
abbrev pub is_of_class : FindingKind → Bool
is_of_class OtherClass = true
is_of_class kind = false

-- a line, if the finding there is of some kind
abbrev pub line_if : Bool → ℕ → List ℕ
line_if of_kind line = if of_kind then line ∷ [] else []

-- the lines of the errors
abbrev pub error_lines : List Finding → List ℕ
error_lines found = flat_map (λ x. if is_error x.kind then x.line ∷ [] else []) found

-- the columns of the errors
abbrev pub error_columns : List Finding → List ℕ
error_columns found = flat_map (λ x. if is_error x.kind then x.column ∷ [] else []) found

-- the lines of the findings of statements that allow nothing
abbrev pub nothing_lines : List Finding → List ℕ
nothing_lines found = flat_map (λ x. if is_of_nothing x.kind then x.line ∷ [] else []) found

-- the lines of the findings of statements that repeat an earlier one
abbrev pub repeat_lines : List Finding → List ℕ
repeat_lines found = flat_map (λ x. if is_of_repeat x.kind then x.line ∷ [] else []) found

abbrev pub class_line : FindingKind → ℕ → List ℕ
class_line kind line = if is_of_class kind then line ∷ [] else []

-- the lines of these findings
abbrev pub class_lines : List Finding → List ℕ
class_lines found = flat_map (λ x. class_line x.kind x.line) found

-- no finding that was added is an error, or a statement that allows nothing or repeats another
abbrev pub Quiet : List Finding → List Finding → Type 0
Quiet old new =
    (error_lines new ≡ error_lines old) × (nothing_lines new ≡ nothing_lines old) × (repeat_lines new ≡ repeat_lines old)

-- no finding that was added is an error; these lines of statements that allow nothing were added, and
-- these of statements that repeat another
abbrev pub AddsUseless : List Finding → List Finding → List ℕ → List ℕ → Type 0
AddsUseless old new nothing repeated =
    (error_lines new ≡ error_lines old) × (nothing_lines new ≡ nothing_lines old ++ nothing)
    × (repeat_lines new ≡ repeat_lines old ++ repeated)

-- the message begins with the word in quotes, as it is shown
abbrev pub QuotesWord : List ℕ → List ℕ → Type 0
QuotesWord word message = (rest : List ℕ) × (message ≡ codes "\"" ++ shown_word word ++ codes "\"" ++ rest)

-- the column of the finding is that of the word which its message begins with
abbrev pub IsAtQuoted : List ℕ → Finding → Type 0
IsAtQuoted text x = (word : List ℕ) × QuotesWord word x.message.items × IsColumnOf text x.line word x.column

-- the column of the finding is that of a word `allow`
abbrev pub IsAtAllow : List ℕ → Finding → Type 0
IsAtAllow text x = IsColumnOf text x.line (codes "allow") x.column

-- The column of a warning or a note is that of the word that it is about: of an allow statement the word `allow`, and
-- otherwise the word that its message quotes. A policy without a statement
-- has its warning at its beginning. (A fault has a column of its kind, and labels and calls are those of a script.)
abbrev pub HasColumnAs : FindingKind → List ℕ → Finding → Type 0
HasColumnAs Fault text x = Unit {0}
HasColumnAs OtherClass text x = IsAtQuoted text x
HasColumnAs OtherPermission text x = IsAtQuoted text x
HasColumnAs AllowsNothing text x = IsAtAllow text x
HasColumnAs NeverAsked text x = IsAtQuoted text x
HasColumnAs Repeats text x = IsAtAllow text x
HasColumnAs NeverNamed text x = IsAtQuoted text x
HasColumnAs NoDomain text x = IsAtQuoted text x
HasColumnAs NeverMatters text x = IsAtAllow text x
HasColumnAs NeverMapped text x = Unit {0}
HasColumnAs NoStatement text x = (x.line ≡ 1) × (x.column ≡ 1)
HasColumnAs AlwaysRefused text x = Unit {0}
HasColumnAs Note text x = IsAtAllow text x ⊎ IsAtQuoted text x

abbrev pub HasColumn : List ℕ → Finding → Type 0
HasColumn text x = HasColumnAs x.kind text x

-- each finding that was added has the column of its word
pub record KeepsColumns (text : List ℕ) (old new : List Finding) : Type 0 where
  pub kept : All (HasColumn text) old → All (HasColumn text) new
