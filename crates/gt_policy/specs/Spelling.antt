-- The grammar of a policy text as relations. `Spells.. x ls rest`: the tokens ls begin
-- with a spelling of x, and rest follows it.
use Rattle.std.specs.Prelude.{◌≡◌, ◌≤◌, ℕ, ◌+◌, Bool, true, false, List, [], ◌∷◌, length}
use Rattle.std.specs.List.{list_any}
use Rattle.std.specs.Str.{bytes_eq}
use Rattle.gt_policy_text.specs.declared.lexer.Token.TheVariants.{Name, TypeWord, AttributeWord, TypeattributeWord}
use Rattle.gt_policy_text.specs.declared.lexer.Token.TheVariants.{AllowWord, SelfWord, Open, Close, Colon, Semicolon}
use Rattle.gt_policy_text.specs.declared.lexer.Token.TheVariants.{Comma, Minus, Star, End}
use Rattle.gt_policy.specs.declared.statements.Mention.{Mention}
use Rattle.gt_policy.specs.declared.statements.SetElement.{SetElement}
use Rattle.gt_policy.specs.declared.statements.SetElement.TheVariants.{With, Without, Itself}
use Rattle.gt_policy.specs.declared.statements.Permissions.{Permissions}
use Rattle.gt_policy.specs.declared.statements.Permissions.TheVariants.{Every, Named}
use Rattle.gt_policy.specs.declared.statements.Allowance.{Allowance}
use Rattle.gt_policy.specs.declared.statements.Statement.{Statement}
use Rattle.gt_policy.specs.declared.statements.Statement.TheVariants.{DeclareType, DeclareAttribute, GiveAttributes}
use Rattle.gt_policy.specs.declared.statements.Statement.TheVariants.{Allow}
use Rattle.gt_policy.specs.Names.{Names}
use Rattle.gt_policy.specs.Grammar.{Lexemes, excluded, is_grant_alone, is_refused_word}

-- ("," NAME)* ";", or if a name must come next, NAME ("," NAME)* ";". In a type
-- statement no name is `alias`. (SELinux policy language)
pub data SpellsNames (in_type : Bool) : Bool → List Mention → Lexemes → Lexemes → Type 0 where
  no_more : (n : ℕ) (rest : Lexemes) → SpellsNames in_type false [] ((Semicolon, n) ∷ rest) rest
  one_more : (n : ℕ) (ms : List Mention) (ls rest : Lexemes) → SpellsNames in_type true ms ls rest
      → SpellsNames in_type false ms ((Comma, n) ∷ ls) rest
  a_name : (m : Mention) (ms : List Mention) (ls rest : Lexemes) → excluded in_type m.name ≡ false
      → SpellsNames in_type false ms ls rest → SpellsNames in_type true (m ∷ ms) ((Name m.name, m.line) ∷ ls) rest

-- ("self" | "-"? NAME)* "}", with `self` only in a target (SELinux policy language)
pub data SpellsItems (target : Bool) : List SetElement → Lexemes → Lexemes → Type 0 where
  items_end : (n : ℕ) (rest : Lexemes) → SpellsItems target [] ((Close, n) ∷ rest) rest
  with : (m : Mention) (items : List SetElement) (ls rest : Lexemes) → SpellsItems target items ls rest
      → SpellsItems target (With m ∷ items) ((Name m.name, m.line) ∷ ls) rest
  without : (n : ℕ) (m : Mention) (items : List SetElement) (ls rest : Lexemes) → SpellsItems target items ls rest
      → SpellsItems target (Without m ∷ items) ((Minus, n) ∷ (Name m.name, m.line) ∷ ls) rest
  itself : (n : ℕ) (items : List SetElement) (ls rest : Lexemes) → target ≡ true → SpellsItems target items ls rest
      → SpellsItems target (Itself ∷ items) ((SelfWord, n) ∷ ls) rest

-- NAME | "{" ("-"? NAME)+ "}", and for a target "self" | NAME | "{" ("self" | "-"? NAME)+ "}" (SELinux policy language)
pub data SpellsSet (target : Bool) : List SetElement → Lexemes → Lexemes → Type 0 where
  one_name : (m : Mention) (rest : Lexemes) → SpellsSet target (With m ∷ []) ((Name m.name, m.line) ∷ rest) rest
  one_self : (n : ℕ) (rest : Lexemes) → target ≡ true → SpellsSet target (Itself ∷ []) ((SelfWord, n) ∷ rest) rest
  set_in : (n : ℕ) (i : SetElement) (items : List SetElement) (ls rest : Lexemes)
      → SpellsItems target (i ∷ items) ls rest → SpellsSet target (i ∷ items) ((Open, n) ∷ ls) rest

-- NAME* "}" (SELinux policy language)
pub data SpellsWords : List (List ℕ) → Lexemes → Lexemes → Type 0 where
  words_end : (n : ℕ) (rest : Lexemes) → SpellsWords [] ((Close, n) ∷ rest) rest
  a_word : (w : List ℕ) (n : ℕ) (ws : List (List ℕ)) (ls rest : Lexemes) → SpellsWords ws ls rest
      → SpellsWords (w ∷ ws) ((Name w, n) ∷ ls) rest

-- NAME | "{" NAME+ "}" (SELinux policy language)
pub data SpellsList : List (List ℕ) → Lexemes → Lexemes → Type 0 where
  one_word : (w : List ℕ) (n : ℕ) (rest : Lexemes) → SpellsList (w ∷ []) ((Name w, n) ∷ rest) rest
  list_in : (n : ℕ) (w : List ℕ) (ws : List (List ℕ)) (ls rest : Lexemes) → SpellsWords (w ∷ ws) ls rest
      → SpellsList (w ∷ ws) ((Open, n) ∷ ls) rest

-- "*" | NAME | "{" NAME+ "}". If class `grant` is the only one, each name is one of its
-- permissions. (SELinux policy language; the seven permissions of XSM FLASK)
pub data SpellsPerms (alone : Bool) : Permissions → Lexemes → Lexemes → Type 0 where
  every : (n : ℕ) (rest : Lexemes) → SpellsPerms alone Every ((Star, n) ∷ rest) rest
  names : (ws : List (List ℕ)) (ls rest : Lexemes) → list_any (λ w. is_refused_word alone w) ws ≡ false
      → SpellsList ws ls rest → SpellsPerms alone (Named ws) ls rest

-- the four statements (SELinux policy language)
pub data SpellsStatement : Statement → Lexemes → Lexemes → Type 0 where
  type_of : (w : List ℕ) (ms : List Mention) (n k : ℕ) (ls rest : Lexemes) → excluded true w ≡ false
      → SpellsNames true false ms ls rest
      → SpellsStatement (DeclareType w ms) ((TypeWord, n) ∷ (Name w, k) ∷ ls) rest
  attribute_of : (w : List ℕ) (n k j : ℕ) (rest : Lexemes)
      → SpellsStatement (DeclareAttribute w) ((AttributeWord, n) ∷ (Name w, k) ∷ (Semicolon, j) ∷ rest) rest
  attributes_of : (m : Mention) (ms : List Mention) (n : ℕ) (ls rest : Lexemes) → SpellsNames false true ms ls rest
      → SpellsStatement (GiveAttributes m ms) ((TypeattributeWord, n) ∷ (Name m.name, m.line) ∷ ls) rest
  allow_of : (a : Allowance) (n k j : ℕ) (source target classes perms rest : Lexemes)
      → SpellsSet false a.source source target → SpellsSet true a.target target ((Colon, k) ∷ classes)
      → SpellsList a.classes classes perms
      → SpellsPerms (is_grant_alone a.classes) a.perms perms ((Semicolon, j) ∷ rest)
      → SpellsStatement (Allow a) ((AllowWord, n) ∷ source) rest

-- statement* up to the end of the text (SELinux policy language)
pub data SpellsText : List Statement → Lexemes → Type 0 where
  text_end : (n : ℕ) (ls : Lexemes) → SpellsText [] ((End, n) ∷ ls)
  statement_of : (s : Statement) (ss : List Statement) (ls rest : Lexemes) → SpellsStatement s ls rest
      → SpellsText ss rest → SpellsText (s ∷ ss) ls

-- the types that the statements declare, in their order
abbrev pub types_in : List Statement → List (List ℕ)
types_in [] = []
types_in (DeclareType w ms ∷ ss) = w ∷ types_in ss
types_in (s ∷ ss) = types_in ss

-- the attributes that the statements declare, in their order
abbrev pub attributes_in : List Statement → List (List ℕ)
attributes_in [] = []
attributes_in (DeclareAttribute w ∷ ss) = w ∷ attributes_in ss
attributes_in (s ∷ ss) = attributes_in ss

-- all names that the statements declare, in their order
abbrev pub declared_in : List Statement → List (List ℕ)
declared_in [] = []
declared_in (DeclareType w ms ∷ ss) = w ∷ declared_in ss
declared_in (DeclareAttribute w ∷ ss) = w ∷ declared_in ss
declared_in (s ∷ ss) = declared_in ss

-- the number of allow statements
abbrev pub allows_in : List Statement → ℕ
allows_in [] = 0
allows_in (Allow a ∷ ss) = allows_in ss + 1
allows_in (s ∷ ss) = allows_in ss

-- the names are pairwise different
abbrev pub AreDistinct : List (List ℕ) → Type 0
AreDistinct [] = Unit {0}
AreDistinct (w ∷ ws) = (list_any (λ v. bytes_eq w v) ws ≡ false) × AreDistinct ws

-- Types and attributes share one space of names, each declared once, and the statements stay within the limits.
pub record AreClean (ss : List Statement) : Type 0 where
  pub distinct : AreDistinct (declared_in ss)
  pub few_types : length (types_in ss) ≤ 256
  pub few_attributes : length (attributes_in ss) ≤ 256
  pub few_allows : allows_in ss ≤ 65536

-- the names that the statements declare, and the number of allow statements
abbrev pub declared_names : List Statement → Names
declared_names ss = record { types = types_in ss; attributes = attributes_in ss; allows = allows_in ss }
