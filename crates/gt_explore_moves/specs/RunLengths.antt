-- Flags as the lengths of their runs.
use Rattle.std.specs.Prelude.{◌++◌, ℕ, List, [], ◌∷◌, Bool, not, replicate}

-- the flags with runs of these lengths, in turns of either kind: the first run is of this kind
abbrev pub flags_of_runs : Bool → List ℕ → List Bool
flags_of_runs is_raised [] = []
flags_of_runs is_raised (n ∷ ns) = replicate n is_raised ++ flags_of_runs (not is_raised) ns
