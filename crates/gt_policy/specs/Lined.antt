-- The statements of a text, each with the line on which it begins.
use Rattle.std.specs.Prelude.{ℕ, List, [], ◌∷◌, map, Result, Ok, Err}
use Rattle.gt_types.specs.Memory.{UnlessMemory}
use Rattle.gt_policy.specs.declared.fault.ReadError.{ReadError}
use Rattle.gt_policy.specs.declared.fault.TokenFault.{TokenFault}
use Rattle.gt_policy_text.specs.declared.lexer.Token.{Token}
use Rattle.gt_policy_text.specs.declared.lexer.Token.TheVariants.{End}
use Rattle.gt_policy.specs.declared.lined.LinedStatement.{LinedStatement}
use Rattle.gt_policy.specs.declared.statements.Statement.{Statement}
use Rattle.gt_policy.specs.Accepting.{IsWritten}
use Rattle.gt_policy.specs.Errors.{fault_in}
use Rattle.gt_policy.specs.Grammar.{Lexemes}
use Rattle.gt_policy_text.specs.Lexing.{lexemes_of}
use Rattle.gt_policy.specs.Names.{Names}
use Rattle.gt_policy.specs.Spelling.{SpellsStatement}
use Rattle.gt_policy.specs.Whole.{GivesStatements, ReadsAs}

-- the statements without their lines
abbrev pub statements_in : List LinedStatement → List Statement
statements_in xs = map (λ x. x.statement) xs

-- statement* up to the end of the text, each with the line of its first token (SELinux policy language; lines own)
pub data SpellsLined : List LinedStatement → Lexemes → Type 0 where
  lined_end : (n : ℕ) (ls : Lexemes) → SpellsLined [] ((End, n) ∷ ls)
  lined_more : (x : LinedStatement) (xs : List LinedStatement) (token : Token) (ls rest : Lexemes)
      → SpellsStatement x.statement ((token, x.line) ∷ ls) rest → SpellsLined xs rest
      → SpellsLined (x ∷ xs) ((token, x.line) ∷ ls)

-- These statements spell the text, declare no name twice and stay within the limits, and each
-- begins on the line that is kept with it.
pub record IsLined (text : List ℕ) (xs : List LinedStatement) : Type 0 where
  pub written : IsWritten text (statements_in xs)
  pub lines : SpellsLined xs (lexemes_of text)

-- after these names, the tokens are these statements with their lines, or have this fault
abbrev pub FollowsLined : Names → Names → Lexemes → Result (List LinedStatement) TokenFault → Type 0
FollowsLined seen before ls (Ok xs) = GivesStatements before [] ls (Ok (seen, statements_in xs)) × SpellsLined xs ls
FollowsLined seen before ls (Err f) = GivesStatements before [] ls (Err f)

-- the same, unless an allocation failed
abbrev pub HeedsLined : Result (List LinedStatement) ReadError → Names → Names → Lexemes → Type 0
HeedsLined r seen before ls = UnlessMemory fault_in r (λ found. FollowsLined seen before ls found)

-- these statements spell the text, or it has this fault
abbrev pub ReadsAsLined : Result (List LinedStatement) TokenFault → List ℕ → Type 0
ReadsAsLined (Ok xs) text = IsLined text xs
ReadsAsLined (Err f) text = ReadsAs text (Err f)

-- the same, unless an allocation failed
abbrev pub LinedIs : Result (List LinedStatement) ReadError → List ℕ → Type 0
LinedIs r text = UnlessMemory fault_in r (λ found. ReadsAsLined found text)
