-- Conditions that no answer meets.
use Rattle.std.specs.Prelude.{◌≡◌, ℕ, decimal, true, false, List, [], ◌∷◌, Some, slice_get}
use Rattle.gt_explore_verdict.specs.Calls.{forms_of}
use Rattle.gt_explore_verdict.specs.Placing.{is_answered}
use Rattle.gt_explore_verdict.specs.Expressions.{ConditionScope, Asked, excludes, may_be, of_all, of_domain, of_line}
use Rattle.gt_explore_verdict.specs.Forms.{begins_form}
use Rattle.gt_explore_verdict.specs.Formulas.{meets, satisfies}
use Rattle.gt_explore_verdict.specs.Satisfying.{is_met_by, line_words, lines_in}
use Rattle.gt_explore_verdict.specs.declared.calls.CallName.{CallName}
use Rattle.gt_explore_verdict.specs.declared.calls.PlacedCall.{PlacedCall}
use Rattle.gt_explore_verdict.specs.declared.forms.AnswerForm.{AnswerForm}
use Rattle.gt_explore_verdict.specs.declared.forms.TheConstants.{EVERY_FORM}

-- a form is one of those that an answer can have in a text
abbrev pub IsForm : AnswerForm → Type 0
IsForm form = (at : ℕ) × (slice_get EVERY_FORM at ≡ Some form)

-- these words of a line have an answer after the line and the domain, which has one of the forms
unfoldable pub HasAnswer : List (List ℕ) → Type 0
HasAnswer [] = Unit {0}
HasAnswer (line ∷ []) = Unit {0}
HasAnswer (line ∷ dom ∷ answer) = (form : AnswerForm) × IsForm form × (begins_form form answer ≡ true)

-- each line of a text has
abbrev pub HaveAnswers : List ℕ → Type 0
HaveAnswers text = (at : ℕ) (line : List ℕ) → slice_get (lines_in text) at ≡ Some line → HasAnswer (line_words line)

-- a condition has words, and one on all answers has one only
abbrev pub HasItsWords : ConditionScope → List (List ℕ) → Type 0
HasItsWords place [] = ⊥
HasItsWords of_all (word ∷ []) = Unit {0}
HasItsWords of_all (word ∷ other ∷ more) = ⊥
HasItsWords (of_line number) (word ∷ more) = Unit {0}
HasItsWords (of_domain number) (word ∷ more) = Unit {0}

-- no text of answers satisfies a condition that no answer can meet
abbrev pub IsNeverMet : Asked → Type 0
IsNeverMet asked = HasItsWords asked.place asked.words → may_be asked.place asked.words ≡ false
    → (text : List ℕ) → HaveAnswers text → satisfies (meets asked) text ≡ false

-- no line meets two conditions of which one excludes the other
abbrev pub AreNeverBothMet : Asked → Asked → Type 0
AreNeverBothMet one other = excludes one other ≡ true
    → (words : List (List ℕ)) → is_met_by one words ≡ true → is_met_by other words ≡ false

-- these words are of lines of a text that answer the same line of the script
abbrev pub AnswerOneLine : List (List ℕ) → List (List ℕ) → Type 0
AnswerOneLine [] others = ⊥
AnswerOneLine (line ∷ words) [] = ⊥
AnswerOneLine (line ∷ words) (other ∷ others) = line ≡ other

-- each line of the script has at most one answer in a text
abbrev pub HasOneAnswerEach : List ℕ → Type 0
HasOneAnswerEach text =
    (i j : ℕ) (one other : List ℕ) → slice_get (lines_in text) i ≡ Some one → slice_get (lines_in text) j ≡ Some other
    → AnswerOneLine (line_words one) (line_words other) → one ≡ other

-- no text with one answer to each line satisfies two conditions of which one excludes the other
abbrev pub AreNeverBothSatisfied : Asked → Asked → Type 0
AreNeverBothSatisfied one other =
    excludes one other ≡ true → (text : List ℕ) → HasOneAnswerEach text
    → satisfies (meets one) text ≡ true → satisfies (meets other) text ≡ false

-- a form is one of those that an answer to such a call can have
abbrev pub IsFormOfCall : CallName → AnswerForm → Type 0
IsFormOfCall call form = (at : ℕ) × (slice_get (forms_of call) at ≡ Some form)

-- these words of a line are an answer of this domain to this call, on its line
pub record IsAnswerToCall (p : PlacedCall) (line dom : List ℕ) (answer : List (List ℕ)) : Type 0 where
  pub on_line : line ≡ decimal p.line
  pub by_dom : dom ≡ decimal p.dom.0
  pub form : AnswerForm
  pub possible : IsFormOfCall p.call form
  pub fits : begins_form form answer ≡ true

-- these words of a line are an answer to one of these calls
unfoldable pub HasAnswerOf : List PlacedCall → List (List ℕ) → Type 0
HasAnswerOf calls [] = Unit {0}
HasAnswerOf calls (line ∷ []) = Unit {0}
HasAnswerOf calls (line ∷ dom ∷ answer) =
    (at : ℕ) × (p : PlacedCall) × (slice_get calls at ≡ Some p) × IsAnswerToCall p line dom answer

-- each line of a text is one
abbrev pub HaveAnswersOf : List PlacedCall → List ℕ → Type 0
HaveAnswersOf calls text =
    (at : ℕ) (line : List ℕ) → slice_get (lines_in text) at ≡ Some line → HasAnswerOf calls (line_words line)

-- a condition is on a line or on a domain
abbrev pub IsOfPlace : ConditionScope → Type 0
IsOfPlace of_all = ⊥
IsOfPlace (of_line number) = Unit {0}
IsOfPlace (of_domain number) = Unit {0}

-- no text of answers to these calls satisfies a condition that none of the calls that it is about can meet
abbrev pub IsNeverAnswered : List PlacedCall → Asked → Type 0
IsNeverAnswered calls asked = IsOfPlace asked.place → is_answered asked.place asked.words calls ≡ false
    → (text : List ℕ) → HaveAnswersOf calls text → satisfies (meets asked) text ≡ false
