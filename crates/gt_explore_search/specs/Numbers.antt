-- Lists of numbers that lie one after the other, each kept once.
use Rattle.std.specs.Prelude.{◌≡◌, ◌⊎◌, ◌++◌, ◌-◌, ◌<◌, ◌≤◌, ℕ, List, [], ◌∷◌, Some, length, take, drop}
use Rattle.std.specs.Prelude.{slice_get, slice_index_or}
use Rattle.std.specs.List.{flat_map}

-- the lists with these ends, the first of which begins here
abbrev pub lists_cut : ℕ → List ℕ → List ℕ → List (List ℕ)
lists_cut begin items [] = []
lists_cut begin items (end ∷ ends) = take (end - begin) (drop begin items) ∷ lists_cut end items ends

-- the ends are in order, and the last one is the end of the items
abbrev pub AreCut : ℕ → List ℕ → List ℕ → Type 0
AreCut begin items [] = begin ≡ length items
AreCut begin items (end ∷ ends) = (begin ≤ end) × (end ≤ length items) × AreCut end items ends

-- the list has this number: that of a list that was kept, or the next one
abbrev pub IsKeptAs : List (List ℕ) → List ℕ → ℕ → List (List ℕ) → Type 0
IsKeptAs old list n new = ((new ≡ old) × (slice_get old n ≡ Some list)) ⊎ ((n ≡ length old) × (new ≡ old ++ list ∷ []))

-- each of these numbers is below this one
abbrev pub AllBelow : ℕ → List ℕ → Type 0
AllBelow count [] = Unit {0}
AllBelow count (n ∷ ns) = (n < count) × AllBelow count ns

-- each number of each of these lists is below this one
abbrev pub EachBelow : ℕ → List (List ℕ) → Type 0
EachBelow count [] = Unit {0}
EachBelow count (l ∷ ls) = AllBelow count l × EachBelow count ls

-- the list that has the pieces with these numbers
abbrev pub list_of_pieces : List (List ℕ) → List ℕ → List ℕ
list_of_pieces pieces list = flat_map (λ n. slice_index_or pieces n []) list
