-- Whether a line of a text meets a condition. A text has a line `LINE DOMAIN ANSWER` for each answer.
use Rattle.std.specs.Prelude.{ℕ, ◌==◌, ◌&&◌, Bool, true, false, List, [], ◌∷◌}
use Rattle.std.specs.List.{list_any, slice_split}
use Rattle.std.specs.Str.{bytes_eq}
use Rattle.gt_explore_verdict.specs.Expressions.{ConditionScope, Asked, of_all, of_domain, of_line}

-- the lines of a text
abbrev pub lines_in : List ℕ → List (List ℕ)
lines_in text = slice_split (λ b. b == 10) text

-- the words of a line
abbrev pub line_words : List ℕ → List (List ℕ)
line_words line = slice_split (λ b. b == 32) line

-- the words of an answer begin with these
abbrev pub begins : List (List ℕ) → List (List ℕ) → Bool
begins words [] = true
begins [] (w ∷ ws) = false
begins (word ∷ words) (w ∷ ws) = bytes_eq word w && begins words ws

-- an answer has this as one of its words
abbrev pub contains_word : List (List ℕ) → List (List ℕ) → Bool
contains_word words [] = false
contains_word words (w ∷ ws) = list_any (λ word. bytes_eq word w) words

-- the answer of this domain to this line of the script is one that is asked for
abbrev pub is_asked_answer : ConditionScope → List (List ℕ) → List ℕ → List ℕ → List (List ℕ) → Bool
is_asked_answer of_all words line dom answer = contains_word answer words
is_asked_answer (of_line number) words line dom answer = bytes_eq line number && begins answer words
is_asked_answer (of_domain number) words line dom answer = bytes_eq dom number && begins answer words

-- a line of a text meets a condition: it is an answer that is asked for
unfoldable pub is_met_by : Asked → List (List ℕ) → Bool
is_met_by asked [] = false
is_met_by asked (line ∷ []) = false
is_met_by asked (line ∷ dom ∷ answer) = is_asked_answer asked.place asked.words line dom answer

-- one of these lines meets a condition
abbrev pub is_met_in : Asked → List (List ℕ) → Bool
is_met_in asked lines = list_any (λ line. is_met_by asked (line_words line)) lines
