-- What a text of neverallow statements is for a policy: statements that name only what the policy declares, or its
-- first fault.
use Rattle.std.specs.Prelude.{ℕ, ◌<◌, ◌≤◌, Bool, false, not, List, [], ◌∷◌, ◌++◌, length, Option, Some, None, Result}
use Rattle.std.specs.Prelude.{Ok, Err, find}
use Rattle.std.specs.List.{flat_map, list_any}
use Rattle.std.specs.Str.{bytes_eq}
use Rattle.gt_types.specs.declared.limits.TheConstants.{LONGEST_TEXT}
use Rattle.gt_policy.specs.Grammar.{at}
use Rattle.gt_policy.specs.declared.fault.TokenFault.{TokenFault}
use Rattle.gt_policy.specs.declared.fault.TokenFaultKind.TheVariants.{Limit, Unknown}
use Rattle.gt_policy.specs.declared.lined.LinedStatement.{LinedStatement}
use Rattle.gt_policy.specs.declared.statements.Mention.{Mention}
use Rattle.gt_policy.specs.declared.statements.SetElement.{SetElement}
use Rattle.gt_policy.specs.declared.statements.SetElement.TheVariants.{With, Without, Itself}
use Rattle.gt_policy.specs.declared.statements.Statement.{Statement}
use Rattle.gt_policy.specs.declared.statements.Statement.TheVariants.{DeclareType, DeclareAttribute, GiveAttributes}
use Rattle.gt_policy.specs.declared.statements.Statement.TheVariants.{Allow}
use Rattle.gt_policy_text.specs.Lexing.{lexemes_of}
use Rattle.gt_neverallow.specs.Reading.{GivesNeverallows}
use Rattle.gt_neverallow.specs.declared.statement.NeverStatement.{NeverStatement}
use Rattle.gt_neverallow.specs.declared.statement.TypeChoice.{TypeChoice}
use Rattle.gt_neverallow.specs.declared.statement.TypeChoice.TheVariants.{But, Every, Of}

-- the statement declares the name, as a type or an attribute (SELinux policy language)
abbrev pub declares : List ℕ → Statement → Bool
declares w (DeclareType v ms) = bytes_eq v w
declares w (DeclareAttribute v) = bytes_eq v w
declares w (GiveAttributes m ms) = false
declares w (Allow a) = false

-- some statement declares the name
abbrev pub is_declared_in : List LinedStatement → List ℕ → Bool
is_declared_in xs w = list_any (λ x. declares w x.statement) xs

-- the name that an item has, after `-` too
abbrev pub mentions_in : SetElement → List Mention
mentions_in (With m) = m ∷ []
mentions_in (Without m) = m ∷ []
mentions_in Itself = []

-- the names of a choice of types
abbrev pub names_chosen : TypeChoice → List Mention
names_chosen Every = []
names_chosen (Of items) = flat_map mentions_in items
names_chosen (But items) = flat_map mentions_in items

-- the names of the sets of a statement, in the order of the text
abbrev pub mentions_of : NeverStatement → List Mention
mentions_of n = names_chosen n.source ++ names_chosen n.target

-- the first of these names that the policy does not declare
abbrev pub undeclared : List LinedStatement → List Mention → Option Mention
undeclared xs ms = find (λ m. not (is_declared_in xs m.name)) ms

-- the statements, or the fault of their first name that the policy does not declare
abbrev pub named_with : List NeverStatement → Option Mention → Result (List NeverStatement) TokenFault
named_with ns None = Ok ns
named_with ns (Some m) = Err (at m.line (Unknown m.name))

-- The meaning of a text for a policy of these statements: neverallow statements, or its first fault. An undeclared name
-- is a fault only of a text without another fault. (SELinux policy language; faults and the limit own)
pub data ReadsAsNever (xs : List LinedStatement) : List ℕ → Result (List NeverStatement) TokenFault → Type 0 where
  too_long : (text : List ℕ) → LONGEST_TEXT < length text → ReadsAsNever xs text (Err (at 1 Limit))
  read : (text : List ℕ) (ns : List NeverStatement) → length text ≤ LONGEST_TEXT
      → GivesNeverallows [] (lexemes_of text) (Ok ns)
      → ReadsAsNever xs text (named_with ns (undeclared xs (flat_map mentions_of ns)))
  faulty : (text : List ℕ) (f : TokenFault) → length text ≤ LONGEST_TEXT → GivesNeverallows [] (lexemes_of text) (Err f)
      → ReadsAsNever xs text (Err f)
