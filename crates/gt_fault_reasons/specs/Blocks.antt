-- The policy block of a script, as a text.
use Rattle.std.specs.Prelude.{◌+◌, ℕ, List, ◌++◌, drop, take, replicate, Option, Some, None}
use Rattle.std.specs.Str.Lines.{lines}
use Rattle.gt_script.specs.Blocks.{block_text, closing, opening}

-- the block that the line `end` at this place closes, after an empty line for each of this number of lines
abbrev pub block_to : ℕ → List (List ℕ) → Option ℕ → Option (List ℕ)
block_to before ls None = None
block_to before ls (Some end) = Some (replicate before 10 ++ block_text (take end ls))

-- the block that the line `policy` at this place opens
abbrev pub block_from : List (List ℕ) → Option ℕ → Option (List ℕ)
block_from ls None = None
block_from ls (Some place) = block_to (place + 1) (drop (place + 1) ls) (closing (drop (place + 1) ls))

-- the policy block of a script, as a text whose lines have their numbers in the script; none if no line opens a block or
-- no line closes it
abbrev pub policy_block : List ℕ → Option (List ℕ)
policy_block text = block_from (lines text) (opening (lines text))
