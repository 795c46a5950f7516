-- The text that a list of answers still has to print.
use Rattle.std.specs.Prelude.{◌≡◌, ◌++◌, ◌<◌, ◌==◌, ℕ, List, [], ◌∷◌, length, Option, Some, None, slice_index_or}
use Rattle.std.specs.Prelude.{zero, suc, if◌then◌else◌}
use Rattle.std.specs.Global.{Vec}
use Rattle.std.specs.List.{flat_map}
use Rattle.gt_explore_search.specs.Numbers.{AllBelow}
use Rattle.gt_explore_search.specs.declared.suffixes.AnswerLine.{AnswerLine}
use Rattle.gt_explore_search.specs.declared.suffixes.AnswerLists.{AnswerLists}

-- the items of the vector with this number, none if there is no such one
abbrev pub items_at : {X : Type 0} → List (Vec X) → ℕ → List X
items_at [] n = []
items_at (v ∷ vs) zero = v.items
items_at (v ∷ vs) (suc n) = items_at vs n

-- what is printed of the lines with these numbers
abbrev pub printed_of : List (Vec ℕ) → List ℕ → List ℕ
printed_of lines tail = flat_map (items_at lines) tail

-- what the domain at this position still prints, by the list of this number
abbrev pub rest_by : AnswerLists → ℕ → ℕ → List ℕ
rest_by s n at = printed_of s.lines.keys (slice_index_or s.tails (slice_index_or (slice_index_or s.lists n []) at 0) [])

-- what the domain at this position prints by an answer, if there is one
abbrev pub line_by : AnswerLists → Option AnswerLine → ℕ → List ℕ
line_by s None at = []
line_by s (Some l) at = if l.place == at then items_at s.lines.keys l.number else []

-- there is a line with this number, and these are its bytes
abbrev pub HasLine : AnswerLists → ℕ → List ℕ → Type 0
HasLine s n bytes = (n < length s.lines.keys) × (items_at s.lines.keys n ≡ bytes)

-- there is a list with this number
abbrev pub HasListAt : AnswerLists → ℕ → Type 0
HasListAt s n = n < length s.lists

-- all lists are whole: each tail names existing lines, and each list names existing tails
pub record AreWhole (s : AnswerLists) : Type 0 where
  pub lines : (n : ℕ) → AllBelow (length s.lines.keys) (slice_index_or s.tails n [])
  pub tails : (n at : ℕ) → slice_index_or (slice_index_or s.lists n []) at 0 < length s.tails

-- the answer, if there is one, has an existing line
abbrev pub HasItsLine : AnswerLists → Option AnswerLine → Type 0
HasItsLine s None = Unit {0}
HasItsLine s (Some l) = l.number < length s.lines.keys

-- there may be more lines, tails and lists now; the earlier ones are unchanged
pub record GrowsInto (s t : AnswerLists) : Type 0 where
  pub lines : (more : List (Vec ℕ)) × (t.lines.keys ≡ s.lines.keys ++ more)
  pub tails : (more : List (List ℕ)) × (t.tails ≡ s.tails ++ more)
  pub lists : (more : List (List ℕ)) × (t.lists ≡ s.lists ++ more)
  pub whole : AreWhole s → AreWhole t

-- by the list of this number nothing is printed
abbrev pub IsEmptyList : AnswerLists → ℕ → Type 0
IsEmptyList s n = HasListAt s n × ((at : ℕ) → rest_by s n at ≡ [])

-- by this list the domains print what they print by that one, with an answer before it, if there is one
abbrev pub IsLonger : AnswerLists → Option AnswerLine → ℕ → ℕ → Type 0
IsLonger s line old n = (at : ℕ) → rest_by s n at ≡ line_by s line at ++ rest_by s old at
