-- The runs of two counters.
use Rattle.std.specs.Prelude.{◌≡◌, ◌⊎◌, ◌++◌, ◌<◌, ◌+◌, ℕ, zero, suc, List, [], ◌∷◌, refl}
use mathlib.Core.Path.{◌∙◌, sym}
use Rattle.gt_explore_search.specs.declared.spaces.Turn.{Turn}
use Rattle.gt_explore_search.specs.Parts.{Splitting}
use Rattle.gt_explore_search.specs.Ways.{Ways}
use Rattle.test_explore_search.specs.declared.counters.Counters.{Counters}
use Rattle.test_explore_search.specs.declared.counters.Tally.{Tally}

-- the point of a run: the value of each counter, and what the first one has printed
pub record Spot : Type 0 where
  pub first : ℕ
  pub second : ℕ
  pub text : List ℕ

-- by this turn a counter below the limit counts; the first one prints the value of the second one
abbrev pub CountsOn : ℕ → Spot → Turn → Spot → Type 0
CountsOn limit p turn q =
    ((turn ≡ record { place = 0; choice = 0 }) × (p.first < limit)
    × (q ≡ record { first = p.first + 1; second = p.second; text = p.text ++ p.second ∷ [] }))
    ⊎ ((turn ≡ record { place = 1; choice = 0 }) × (p.second < limit)
    × (q ≡ record { first = p.first; second = p.second + 1; text = p.text }))

-- no counter has begun
abbrev pub IsUnbegun : Spot → Type 0
IsUnbegun p = (p.first ≡ 0) × (p.second ≡ 0) × (p.text ≡ [])

-- what the counter at this position has printed
abbrev pub printed_at : Spot → ℕ → List ℕ
printed_at p zero = p.text
printed_at p (suc at) = []

-- at the beginning that is nothing
pub blank_at : (p : Spot) → IsUnbegun p → (at : ℕ) → printed_at p at ≡ []
blank_at p first zero = first.2
blank_at p first (suc at) = refl

-- the runs of two counters
abbrev pub counters_ways : Counters → Ways Tally
counters_ways counters = record {
  Point = Spot;
  domains = 2;
  begins = IsUnbegun;
  next = CountsOn counters.limit;
  ends = λ p. (p.first ≡ counters.limit) × (p.second ≡ counters.limit);
  printed = printed_at;
  shows = λ tally p. (tally.first ≡ p.first) × (tally.second ≡ p.second);
  blank = blank_at;
}

-- the parts of a state: the values of both
abbrev pub counters_parts : Counters → Splitting Tally ℕ
counters_parts counters = record {
  of = λ tally. tally.first ∷ tally.second ∷ [];
  same = λ p q. q ≡ p;
  same_on = λ p q r first second. second ∙ first;
  same_back = λ p q is. sym is;
}
