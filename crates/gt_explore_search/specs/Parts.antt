-- States as lists of numbers of their parts.
use Rattle.std.specs.Prelude.{◌≡◌, ◌++◌, ℕ, List, [], ◌∷◌, Option, Some, slice_get, IfSome}
use Rattle.gt_explore_search.specs.Ways.{Ways}
use Rattle.gt_explore_search.specs.declared.states.WholeState.{WholeState}

-- how the states of a space are split into parts
pub record Splitting (State Part : Type 0) : Type 1 where
  -- the parts of a state
  pub of : State → List Part
  -- the other part is the same
  pub same : Part → Part → Type 0
  pub same_on : (p q r : Part) → same p q → same q r → same p r
  pub same_back : (p q : Part) → same p q → same q p

-- each item of the one list is so related to that of the other one at its index, and there are as many of both
abbrev pub Pairwise : {X Y : Type 0} → (X → Y → Type 0) → List X → List Y → Type 0
Pairwise R [] [] = Unit {0}
Pairwise R (x ∷ xs) (y ∷ ys) = R x y × Pairwise R xs ys
Pairwise R [] (y ∷ ys) = ⊥
Pairwise R (x ∷ xs) [] = ⊥

-- the part of the state at this index is the same as this one
abbrev pub HasPart : {W P : Type 0} → Splitting W P → W → ℕ → P → Type 0
HasPart {W} {P} parts w at q = (p : P) × (slice_get (parts.of w) at ≡ Some p) × parts.same p q

-- the part is the same as the one with this number
abbrev pub HasNumber : {W P : Type 0} → Splitting W P → List P → P → ℕ → Type 0
HasNumber {W} {P} parts all p n = (q : P) × (slice_get all n ≡ Some q) × parts.same p q

-- the part is the same as the one with the number before it
abbrev pub RepeatsPart : {W P : Type 0} → Splitting W P → List P → ℕ → P → Type 0
RepeatsPart {W} {P} parts all n p = (q : P) × (slice_get all n ≡ Some q) × parts.same q p

-- the new list is the old one with more at its end
abbrev pub Extends : {X : Type 0} → List X → List X → Type 0
Extends {X} old new = (more : List X) × (new ≡ old ++ more)

-- the part of the state at this index is the same as the one with this number
abbrev pub HasNumberAt : {W P : Type 0} → Splitting W P → List P → W → ℕ → ℕ → Type 0
HasNumberAt {W} {P} parts all w at n = (p : P) × (slice_get (parts.of w) at ≡ Some p) × HasNumber parts all p n

-- the parts of the state have these numbers
abbrev pub HasNumbers : {W P : Type 0} → Splitting W P → List P → W → List ℕ → Type 0
HasNumbers parts all w numbers = Pairwise (HasNumber parts all) (parts.of w) numbers

-- the runs of a space with the numbers of parts as its states, if all parts are these: such a state shows what is shown
-- by the states with these parts
abbrev pub by_numbers : {W P : Type 0} → Ways W → Splitting W P → List P → Ways (List ℕ)
by_numbers {W} {P} ways parts all = record {
  Point = ways.Point;
  domains = ways.domains;
  begins = ways.begins;
  next = ways.next;
  ends = ways.ends;
  printed = ways.printed;
  shows = λ k p. (w : W) × HasNumbers parts all w k × ways.shows w p;
  blank = ways.blank;
}

-- the state shows all that these numbers show
abbrev pub IsJoined : {W P : Type 0} → Ways W → Splitting W P → List P → List ℕ → W → Type 0
IsJoined ways parts all k w = (p : ways.Point) → (by_numbers ways parts all).shows k p → ways.shows w p

-- the state shows all that the numbers at this index show
abbrev pub IsStateAt : {W P : Type 0} → Ways W → Splitting W P → List P → List (List ℕ) → ℕ → W → Type 0
IsStateAt ways parts all states n w = (k : List ℕ) × (slice_get states n ≡ Some k) × IsJoined ways parts all k w

-- the state at hand, if there is one, shows all that the numbers at its index show
abbrev pub HandHolds : {W P : Type 0} → Ways W → Splitting W P → List P → List (List ℕ) → Option (WholeState W) → Type 0
HandHolds ways parts all states hand = IfSome hand (λ w. IsStateAt ways parts all states w.number w.state)
