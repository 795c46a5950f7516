-- Which texts are policies, and what they mean, defined without a parser.
use Rattle.std.specs.Prelude.{◌≡◌, ℕ, ◌≤◌, List, [], ◌∷◌, length, Result, Err}
use Rattle.gt_types.specs.declared.limits.TheConstants.{LONGEST_TEXT}
use Rattle.gt_policy.specs.declared.fault.TokenFault.{TokenFault}
use Rattle.gt_policy.specs.declared.statements.Statement.{Statement}
use Rattle.gt_policy_text.specs.Lexing.{lexemes_of}
use Rattle.gt_policy.specs.Grammar.{Lexemes, statement}
use Rattle.gt_policy.specs.Spelling.{SpellsStatement, SpellsText, AreClean, declared_names}
use Rattle.gt_policy.specs.Allowing.{Meaning}
use Rattle.gt_policy.specs.Resolving.{resolved_draft, nothing_given}
use Rattle.gt_policy.specs.Whole.{meaning_of}

-- The text is no longer than a policy may be, and these statements spell its tokens. They declare no name
-- twice and stay within the limits. (SELinux policy language; limits own)
pub record IsWritten (text : List ℕ) (ss : List Statement) : Type 0 where
  pub short : length text ≤ LONGEST_TEXT
  pub spelled : SpellsText ss (lexemes_of text)
  pub clean : AreClean ss

-- what such statements mean: a policy, or the fault of the first name that is not declared as it has to be
abbrev pub meant_by : List Statement → Result Meaning TokenFault
meant_by ss = meaning_of (declared_names ss) (resolved_draft (declared_names ss) nothing_given ss)

-- the tokens begin with these statements, and the rest follows them (SELinux policy language)
pub data SpellsFront : List Statement → Lexemes → Lexemes → Type 0 where
  front_end : (rest : Lexemes) → SpellsFront [] rest rest
  front_more : (s : Statement) (ss : List Statement) (ls behind rest : Lexemes) → SpellsStatement s ls behind
      → SpellsFront ss behind rest → SpellsFront (s ∷ ss) ls rest

-- The first malformed statement: clean statements come before it, and it
-- has this fault at its first token that fits nowhere.
pub record IsBroken (text : List ℕ) (f : TokenFault) : Type 0 where
  pub before : List Statement
  pub rest : Lexemes
  pub short : length text ≤ LONGEST_TEXT
  pub spelled : SpellsFront before (lexemes_of text) rest
  pub clean : AreClean before
  pub fault : statement (declared_names before) rest ≡ Err f
