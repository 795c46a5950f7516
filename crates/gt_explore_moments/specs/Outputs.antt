-- The lines of an answer.
use Rattle.std.specs.Prelude.{◌++◌, ℕ, List, codes, decimal}

-- no order has such a moment; `states` is the number of states that the search met
abbrev pub holds_lines : ℕ → List ℕ
holds_lines states = codes "holds\nstates " ++ decimal states ++ codes "\n"

-- no such moment was found, and the search did not meet all states
abbrev pub undecided_lines : ℕ → List ℕ
undecided_lines states = codes "not decided\nstates " ++ decimal states ++ codes ": not all states; raise --states\n"

-- the comment over a script that reaches a moment at which this claim holds
abbrev pub moment_comment : List ℕ → ℕ → List ℕ
moment_comment claim states =
    codes "# does not hold: at its end " ++ claim ++ codes "\n# states " ++ decimal states ++ codes "\n"
