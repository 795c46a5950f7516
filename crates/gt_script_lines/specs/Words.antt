-- The words of a line.
use Rattle.std.specs.Prelude.{ℕ, ◌||◌, Bool, not, List, length, filter, ◌==◌}
use Rattle.std.specs.List.{before_first, slice_split}

-- a line without its comment
abbrev pub uncommented : List ℕ → List ℕ
uncommented line = before_first (λ b. b == 35) line

-- a space or a tab
abbrev pub is_space : ℕ → Bool
is_space b = (b == 32) || (b == 9)

-- a word is not empty
abbrev pub is_nonempty : List ℕ → Bool
is_nonempty word = not (length word == 0)

-- the words of a line: what is between its blanks, up to its comment
abbrev pub words : List ℕ → List (List ℕ)
words line = filter is_nonempty (slice_split is_space (uncommented line))
