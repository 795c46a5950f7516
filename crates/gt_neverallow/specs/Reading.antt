-- A text of neverallow statements: its parsers, in the form of those of an allow statement.
use Rattle.std.specs.Prelude.{◌≡◌, ℕ, Bool, true, false, List, [], ◌∷◌, ◌++◌, codes, Option, Some, None, Result, Ok}
use Rattle.std.specs.Prelude.{Err, if◌then◌else◌}
use Rattle.std.specs.Str.{bytes_eq}
use Rattle.gt_types.specs.Memory.{UnlessMemory}
use Rattle.gt_policy.specs.Errors.{with_rest}
use Rattle.gt_policy.specs.Grammar.{Lexemes, LexerState, ◌>>=◌, at, classes_of, colon, is_grant_alone, misfit}
use Rattle.gt_policy.specs.Grammar.{perms_of, semicolon, set_of}
use Rattle.gt_policy.specs.declared.fault.TokenFault.{TokenFault}
use Rattle.gt_policy.specs.declared.fault.TokenFaultKind.{TokenFaultKind}
use Rattle.gt_policy.specs.declared.fault.TokenFaultKind.TheVariants as token_fault_kinds
use Rattle.gt_policy.specs.declared.statements.SetElement.{SetElement}
use Rattle.gt_policy_text.specs.declared.lexer.Token.{Token}
use Rattle.gt_policy_text.specs.declared.lexer.Token.TheVariants.{AllowWord, AttributeWord, End, Name, Star, Tilde}
use Rattle.gt_policy_text.specs.declared.lexer.Token.TheVariants.{TypeWord, TypeattributeWord}
use Rattle.gt_neverallow.specs.declared.fault.ParseError.{ParseError}
use Rattle.gt_neverallow.specs.declared.fault.ParseError.TheVariants.{Fault, Memory}
use Rattle.gt_neverallow.specs.declared.fault.TokenKind.{TokenKind}
use Rattle.gt_neverallow.specs.declared.fault.TokenKind.TheVariants as token_kinds
use Rattle.gt_neverallow.specs.declared.statement.Forbidden.TheVariants.{Flow, Grants}
use Rattle.gt_neverallow.specs.declared.statement.NeverStatement.{NeverStatement}
use Rattle.gt_neverallow.specs.declared.statement.TypeChoice.{TypeChoice}
use Rattle.gt_neverallow.specs.declared.statement.TypeChoice.TheVariants.{But, Every, Of}

-- the kind of a fault of the text
abbrev pub fault_kind : TokenKind → TokenFaultKind
fault_kind token_kinds.Syntax = token_fault_kinds.Syntax
fault_kind (token_kinds.Unknown w) = token_fault_kinds.Unknown w
fault_kind (token_kinds.Permission w) = token_fault_kinds.Permission w
fault_kind (token_kinds.Outside w) = token_fault_kinds.Outside w
fault_kind token_kinds.Limit = token_fault_kinds.Limit

-- the fault of an error; none if an allocation failed
abbrev pub parse_fault_in : ParseError → Option TokenFault
parse_fault_in Memory = None
parse_fault_in (Fault line kind) = Some (at line (fault_kind kind))

-- The value and the tokens left are those of the grammar, unless an allocation failed.
abbrev pub Reads : {X : Type 0} → Result X ParseError → Lexemes → LexerState X → Type 0
Reads r rest said = UnlessMemory parse_fault_in r (λ found. said ≡ with_rest (λ x. (x, rest)) found)

-- A mark was read and the tokens left are those of the grammar, unless an allocation failed.
abbrev pub ReadsNothing : Result (Unit {0}) ParseError → Lexemes → Result Lexemes TokenFault → Type 0
ReadsNothing r rest said = UnlessMemory parse_fault_in r (λ found. said ≡ with_rest (λ x. rest) found)

-- a set as a choice of its types, or of all others
abbrev pub as_choice : (List SetElement → TypeChoice) → LexerState (List SetElement) → LexerState TypeChoice
as_choice choice (Ok r) = Ok (choice r.0, r.1)
as_choice choice (Err f) = Err f

-- "*" | "~" set | set, where a set after "~" has no `self` (SELinux policy language: neverallow; faults own)
unfoldable pub types_of : Bool → Lexemes → LexerState TypeChoice
types_of target [] = as_choice Of (set_of target [])
types_of target ((Star, n) ∷ ls) = Ok (Every, ls)
types_of target ((Tilde, n) ∷ ls) = as_choice But (set_of false ls)
types_of target ((token, n) ∷ ls) = as_choice Of (set_of target ((token, n) ∷ ls))

-- after the word `neverallow` on this line: set target ":" classes perms ";" (SELinux policy language; faults own)
unfoldable pub never_statement : ℕ → Lexemes → LexerState NeverStatement
never_statement line ls = do
  source ← types_of false ls
  target ← types_of true source.1
  rest ← colon target.1
  classes ← classes_of rest
  perms ← perms_of (is_grant_alone classes.0) classes.1
  rest ← semicolon false perms.1
  Ok (record { line = line; source = source.0; target = target.0; what = Grants classes.0 perms.0 }, rest)

-- after the word `neverflow` on this line: set set ";", neither with `self` (own)
unfoldable pub flow_statement : ℕ → Lexemes → LexerState NeverStatement
flow_statement line ls = do
  source ← types_of false ls
  target ← types_of false source.1
  rest ← semicolon false target.1
  Ok (record { line = line; source = source.0; target = target.0; what = Flow }, rest)

-- the word `neverallow`
abbrev pub begins_statement : Token → Bool
begins_statement (Name w) = bytes_eq w (codes "neverallow")
begins_statement _ = false

-- the word `neverflow`
abbrev pub begins_flow : Token → Bool
begins_flow (Name w) = bytes_eq w (codes "neverflow")
begins_flow _ = false

-- the kind of fault for a token that begins no such statement
unfoldable pub misfit_statement : Token → TokenFaultKind
misfit_statement TypeWord = token_fault_kinds.Outside (codes "type")
misfit_statement AttributeWord = token_fault_kinds.Outside (codes "attribute")
misfit_statement TypeattributeWord = token_fault_kinds.Outside (codes "typeattribute")
misfit_statement AllowWord = token_fault_kinds.Outside (codes "allow")
misfit_statement (Name w) = token_fault_kinds.Outside w
misfit_statement token = misfit false token

-- a statement as the next one
abbrev pub next_neverallow : LexerState NeverStatement → LexerState (Option NeverStatement)
next_neverallow (Ok s) = Ok (Some s.0, s.1)
next_neverallow (Err f) = Err f

-- the next statement, or none at the end of the text; no other statement may come (faults own)
unfoldable pub next_statement : Lexemes → LexerState (Option NeverStatement)
next_statement [] = Err (at 0 token_fault_kinds.Syntax)
next_statement ((End, n) ∷ ls) = Ok (None, [])
next_statement ((token, n) ∷ ls) = if begins_statement token then next_neverallow (never_statement n ls)
    else (if begins_flow token then next_neverallow (flow_statement n ls) else Err (at n (misfit_statement token)))

-- the next statement; at the end of the text none
abbrev pub IsNextNeverallow : Result (Option NeverStatement) TokenFault → Lexemes → LexerState (Option NeverStatement) → Type 0
IsNextNeverallow (Ok (Some x)) rest said = said ≡ Ok (Some x, rest)
IsNextNeverallow (Ok None) rest said = said ≡ Ok (None, [])
IsNextNeverallow (Err f) rest said = said ≡ Err f

-- the same, unless an allocation failed
abbrev pub ReadsNext : Result (Option NeverStatement) ParseError → Lexemes → LexerState (Option NeverStatement) → Type 0
ReadsNext r rest said = UnlessMemory parse_fault_in r (λ found. IsNextNeverallow found rest said)

-- after some statements, the tokens give these in all, or the first fault
pub data GivesNeverallows : List NeverStatement → Lexemes → Result (List NeverStatement) TokenFault → Type 0 where
  ended : (read : List NeverStatement) (ls rest : Lexemes) → next_statement ls ≡ Ok (None, rest)
      → GivesNeverallows read ls (Ok read)
  more : (read : List NeverStatement) (x : NeverStatement) (ls rest : Lexemes) (said : Result (List NeverStatement) TokenFault)
      → next_statement ls ≡ Ok (Some x, rest) → GivesNeverallows (read ++ x ∷ []) rest said
      → GivesNeverallows read ls said
  wrong : (read : List NeverStatement) (ls : Lexemes) (f : TokenFault) → next_statement ls ≡ Err f
      → GivesNeverallows read ls (Err f)

-- the statements or the fault are those of the tokens, unless an allocation failed
abbrev pub ReadsTo : Result (List NeverStatement) ParseError → Lexemes → Type 0
ReadsTo r ls = UnlessMemory parse_fault_in r (λ found. GivesNeverallows [] ls found)
