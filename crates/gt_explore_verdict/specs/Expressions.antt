-- Terms of an expression: conditions on the answers of a text.
use Rattle.std.specs.Prelude.{ℕ, ◌==◌, ◌&&◌, ◌||◌, not, Bool, true, false, List, [], ◌∷◌, filter}
use Rattle.std.specs.Prelude.{length, map, codes, Option, Some, None, Result, Ok, Err, if◌then◌else◌}
use Rattle.std.specs.List.{list_any, slice_split}
use Rattle.std.specs.Str.{bytes_eq}
use Rattle.gt_explore_verdict.specs.Forms.{may_begin, may_have}
use Rattle.gt_explore_verdict.specs.Rules.{at_mark, is_decimal_number, is_rule, is_wrong_rule}
use Rattle.gt_explore_verdict.specs.declared.conditions.Condition.{Condition}
use Rattle.gt_explore_verdict.specs.declared.conditions.Place.{Place}
use Rattle.gt_explore_verdict.specs.declared.conditions.Place.TheVariants.{Anywhere, Line, Domain}
use Rattle.gt_explore_verdict.specs.declared.fault.ConditionFault.{ConditionFault}
use Rattle.gt_explore_verdict.specs.declared.fault.ConditionFault.TheVariants as condition_faults

-- the answers that a condition is about: all answers, the answer to a line, or those of a domain, by their numbers
pub data ConditionScope : Type 0 where
  of_all : ConditionScope
  of_line : List ℕ → ConditionScope
  of_domain : List ℕ → ConditionScope

-- a condition on a text: of all answers, some answer has the word; of a line or a domain, one of its answers begins
-- with the words
pub record Asked : Type 0 where
  pub place : ConditionScope
  pub words : List (List ℕ)

abbrev pub place_asked : Place → ConditionScope
place_asked Anywhere = of_all
place_asked (Line number) = of_line number.now
place_asked (Domain number) = of_domain number.now

abbrev pub condition_asked : Condition → Asked
condition_asked c = record { place = place_asked c.place; words = c.first.now ∷ map (λ w. w.now) c.more.items }

abbrev pub term_asked : Result Condition ConditionFault → Result Asked ConditionFault
term_asked (Ok c) = Ok (condition_asked c)
term_asked (Err fault) = Err fault

-- the number before the first such mark, and the bytes after it
abbrev pub number_only : Option (List ℕ × List ℕ) → Option (List ℕ × List ℕ)
number_only None = None
number_only (Some parts) = if is_decimal_number parts.0 then Some parts else None

abbrev pub number_after_mark : ℕ → List ℕ → Option (List ℕ × List ℕ)
number_after_mark mark word = number_only (at_mark mark word)

-- the place that the first word of a term names, `LINE=` or `ID:`, and the rest of the word
abbrev pub placed_by : Option (List ℕ × List ℕ) → Option (List ℕ × List ℕ) → List ℕ → ConditionScope × List ℕ
placed_by (Some line) colon word = (of_line line.0, line.1)
placed_by None (Some dom) word = (of_domain dom.0, dom.1)
placed_by None None word = (of_all, word)

abbrev pub placed : List ℕ → ConditionScope × List ℕ
placed word = placed_by (number_after_mark 61 word) (number_after_mark 58 word) word

-- an answer may begin with this word
abbrev pub is_answer_word : List ℕ → Bool
is_answer_word word = bytes_eq word (codes "ok") || is_rule word

-- some answer can be one that a condition with these words is about
abbrev pub may_be_by : ConditionScope → List ℕ → List (List ℕ) → Bool
may_be_by of_all first [] = may_have first
may_be_by of_all first (word ∷ more) = false
may_be_by (of_line number) first more = may_begin (first ∷ more)
may_be_by (of_domain number) first more = may_begin (first ∷ more)

abbrev pub may_be : ConditionScope → List (List ℕ) → Bool
may_be place [] = false
may_be place (first ∷ more) = may_be_by place first more

-- why no answer can be such a one
abbrev pub reason_by : ConditionScope → List ℕ → List (List ℕ) → ConditionFault
reason_by of_all first [] = condition_faults.Word
reason_by of_all first (word ∷ more) = condition_faults.Words
reason_by (of_line number) first more =
    if is_answer_word first then condition_faults.Beginning else condition_faults.Answer
reason_by (of_domain number) first more =
    if is_answer_word first then condition_faults.Beginning else condition_faults.Answer

abbrev pub reason : ConditionScope → List (List ℕ) → ConditionFault
reason place [] = condition_faults.Empty
reason place (first ∷ more) = if is_wrong_rule first then condition_faults.Rule else reason_by place first more

-- a condition, if some answer can be one that it is about
abbrev pub if_possible : Asked → Result Asked ConditionFault
if_possible asked = if may_be asked.place asked.words then Ok asked else Err (reason asked.place asked.words)

-- the condition that the words of a term name
abbrev pub condition_of_words : List ℕ → List (List ℕ) → Asked
condition_of_words word more = record { place = (placed word).0; words = (placed word).1 ∷ more }

-- the words of a term as a condition, if some answer can be one that it is about
abbrev pub read_term : List (List ℕ) → Result Asked ConditionFault
read_term [] = Err condition_faults.Empty
read_term (word ∷ more) = if_possible (condition_of_words word more)

-- a word is not empty
abbrev pub is_nonempty_word : List ℕ → Bool
is_nonempty_word word = not (length word == 0)

-- the words of a term: what is between its spaces
abbrev pub words_in : List ℕ → List (List ℕ)
words_in term = filter is_nonempty_word (slice_split (λ b. b == 32) term)

-- these words are the same, as far as there are both
abbrev pub agree : List (List ℕ) → List (List ℕ) → Bool
agree [] others = true
agree (word ∷ words) [] = true
agree (word ∷ words) (other ∷ others) = bytes_eq word other && agree words others

-- both are conditions on the answer to one line, and no answer begins with the words of both
abbrev pub excludes_at : ConditionScope → ConditionScope → List (List ℕ) → List (List ℕ) → Bool
excludes_at (of_line line) (of_line same) words others = bytes_eq line same && not (agree words others)
excludes_at _ _ words others = false

abbrev pub excludes : Asked → Asked → Bool
excludes one other = excludes_at one.place other.place one.words other.words

-- one of these conditions excludes another one
abbrev pub is_excluded : List Asked → Asked → Bool
is_excluded conditions asked = list_any (λ earlier. excludes earlier asked) conditions
