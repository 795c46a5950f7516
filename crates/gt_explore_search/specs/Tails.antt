-- Lists of lines, each kept as its first line and the number of the list behind it.
use Rattle.std.specs.Prelude.{◌≡◌, ◌++◌, ◌+◌, ◌<◌, ℕ, List, [], ◌∷◌, slice_index_or}
use Rattle.gt_explore_search.specs.declared.tails.TailNode.{TailNode}

-- these tails, and after them those of these nodes: each has its first line, and then the lines of the tail behind it
abbrev pub tails_with : List (List ℕ) → List TailNode → List (List ℕ)
tails_with tails [] = tails
tails_with tails (n ∷ ns) = tails_with (tails ++ (n.line ∷ slice_index_or tails n.behind []) ∷ []) ns

-- each of these nodes, the first of which has this number, has a tail behind it with a smaller one
abbrev pub AreBehind : ℕ → List TailNode → Type 0
AreBehind number [] = Unit {0}
AreBehind number (n ∷ ns) = (n.behind < number) × AreBehind (number + 1) ns

-- the tail with this number has this first line, and then the lines of the tail behind it, whose number is smaller
abbrev pub BeginsWith : List (List ℕ) → ℕ → TailNode → Type 0
BeginsWith tails number n =
    (n.behind < number) × (slice_index_or tails number [] ≡ n.line ∷ slice_index_or tails n.behind [])
