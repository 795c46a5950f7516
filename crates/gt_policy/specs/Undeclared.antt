-- The names that statements use, and the first of them that is not declared, defined without a walk that looks them up.
use Rattle.std.specs.Prelude.{◌≡◌, ℕ, ◌||◌, Bool, true, false, List, [], ◌∷◌, ◌++◌}
use Rattle.std.specs.List.{list_any, list_all}
use Rattle.std.specs.Str.{bytes_eq}
use Rattle.gt_policy.specs.declared.fault.TokenFault.{TokenFault}
use Rattle.gt_policy.specs.declared.fault.TokenFaultKind.TheVariants.{Unknown}
use Rattle.gt_policy.specs.declared.statements.Mention.{Mention}
use Rattle.gt_policy.specs.declared.statements.SetElement.{SetElement}
use Rattle.gt_policy.specs.declared.statements.SetElement.TheVariants.{With, Without, Itself}
use Rattle.gt_policy.specs.declared.statements.Statement.{Statement}
use Rattle.gt_policy.specs.declared.statements.Statement.TheVariants.{DeclareType, DeclareAttribute, GiveAttributes}
use Rattle.gt_policy.specs.declared.statements.Statement.TheVariants.{Allow}
use Rattle.gt_policy.specs.Grammar.{at}
use Rattle.gt_policy.specs.Spelling.{types_in, attributes_in}

-- What a name has to be declared as where it is used: as either in a set, as a type in front of the attributes
-- of `typeattribute`, as an attribute in a list of attributes. (SELinux policy language)
pub data Role : Type 0 where
  InSet : Role
  OfType : Role
  OfAttribute : Role

-- a name that is used, and what it has to be declared as
abbrev pub Use : Type 0
Use = Role × Mention

-- these names, all used in one role
abbrev pub all_used : Role → List Mention → List Use
all_used role [] = []
all_used role (m ∷ ms) = (role, m) ∷ all_used role ms

-- the names of a set, those after `-` too
abbrev pub set_uses : List SetElement → List Use
set_uses [] = []
set_uses (With m ∷ items) = (InSet, m) ∷ set_uses items
set_uses (Without m ∷ items) = (InSet, m) ∷ set_uses items
set_uses (Itself ∷ items) = set_uses items

-- The names that a statement uses, in the order of the text, without the name that it
-- declares, its classes and its permissions.
abbrev pub statement_uses : Statement → List Use
statement_uses (DeclareType w ms) = all_used OfAttribute ms
statement_uses (DeclareAttribute w) = []
statement_uses (GiveAttributes m ms) = (OfType, m) ∷ all_used OfAttribute ms
statement_uses (Allow a) = set_uses a.source ++ set_uses a.target

-- the names that the statements use, in the order of the text
abbrev pub uses_of : List Statement → List Use
uses_of [] = []
uses_of (s ∷ ss) = statement_uses s ++ uses_of ss

-- some statement declares the name as a type (SELinux policy language)
abbrev pub is_type : List Statement → List ℕ → Bool
is_type ss w = list_any (λ t. bytes_eq t w) (types_in ss)

-- some statement declares the name as an attribute (SELinux policy language)
abbrev pub is_attribute : List Statement → List ℕ → Bool
is_attribute ss w = list_any (λ a. bytes_eq a w) (attributes_in ss)

-- a used name is declared by some statement as what it has to be
abbrev pub is_met : List Statement → Use → Bool
is_met ss (InSet, m) = is_type ss m.name || is_attribute ss m.name
is_met ss (OfType, m) = is_type ss m.name
is_met ss (OfAttribute, m) = is_attribute ss m.name

-- Every name that the statements use is declared as what it has to be. (SELinux policy language)
abbrev pub AreDeclared : List Statement → Type 0
AreDeclared ss = list_all (is_met ss) (uses_of ss) ≡ true

-- The first use that is not declared as it has to be, with all before it declared; the fault
-- gives its name and line.
pub record IsFirstUndeclared (ss : List Statement) (uses : List Use) (f : TokenFault) : Type 0 where
  pub before : List Use
  pub here : Use
  pub behind : List Use
  pub place : uses ≡ before ++ here ∷ behind
  pub declared : list_all (is_met ss) before ≡ true
  pub undeclared : is_met ss here ≡ false
  pub fault : at here.1.line (Unknown here.1.name) ≡ f
