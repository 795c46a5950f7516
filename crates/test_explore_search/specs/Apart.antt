-- The runs of two independent counters.
use Rattle.std.specs.Prelude.{◌≡◌, ◌⊎◌, ◌++◌, ◌<◌, ◌+◌, ℕ, zero, suc, List, [], ◌∷◌, refl}
use mathlib.Core.Path.{◌∙◌, sym}
use Rattle.gt_explore_search.specs.declared.spaces.Turn.{Turn}
use Rattle.gt_explore_search.specs.Parts.{Splitting}
use Rattle.gt_explore_search.specs.Ways.{Ways}
use Rattle.test_explore_search.specs.declared.apart.Apart.{Apart}
use Rattle.test_explore_search.specs.declared.apart.Place.{Place}

-- the point of a run: the value of each counter, and what each has printed
pub record Spot : Type 0 where
  pub first : ℕ
  pub second : ℕ
  pub text : List ℕ
  pub other : List ℕ

-- the first counter counts
abbrev pub first_on : Spot → Spot
first_on p = record { first = p.first + 1; second = p.second; text = p.text ++ p.first ∷ []; other = p.other }

-- the second counter counts
abbrev pub second_on : Spot → Spot
second_on p = record { first = p.first; second = p.second + 1; text = p.text; other = p.other ++ p.second ∷ [] }

abbrev pub first_turn : Turn
first_turn = record { place = 0; choice = 0 }

abbrev pub second_turn : Turn
second_turn = record { place = 1; choice = 0 }

-- by this turn a counter below the limit counts
abbrev pub CountsOn : ℕ → Spot → Turn → Spot → Type 0
CountsOn limit p turn q =
    ((turn ≡ first_turn) × (p.first < limit) × (q ≡ first_on p))
    ⊎ ((turn ≡ second_turn) × (p.second < limit) × (q ≡ second_on p))

-- no counter has begun
abbrev pub IsUnbegun : Spot → Type 0
IsUnbegun p = (p.first ≡ 0) × (p.second ≡ 0) × (p.text ≡ []) × (p.other ≡ [])

-- what the counter at this position has printed
abbrev pub printed_at : Spot → ℕ → List ℕ
printed_at p zero = p.text
printed_at p (suc zero) = p.other
printed_at p (suc (suc at)) = []

-- at the beginning that is nothing
pub blank_at : (p : Spot) → IsUnbegun p → (at : ℕ) → printed_at p at ≡ []
blank_at p first zero = first.2
blank_at p first (suc zero) = first.3
blank_at p first (suc (suc at)) = refl

-- the runs of two counters
abbrev pub apart_ways : Apart → Ways Place
apart_ways counters = record {
  Point = Spot;
  domains = 2;
  begins = IsUnbegun;
  next = CountsOn counters.limit;
  ends = λ p. (p.first ≡ counters.limit) × (p.second ≡ counters.limit);
  printed = printed_at;
  shows = λ tally p. (tally.first ≡ p.first) × (tally.second ≡ p.second);
  blank = blank_at;
}

-- the parts of a state: the values of both
abbrev pub apart_parts : Apart → Splitting Place ℕ
apart_parts counters = record {
  of = λ tally. tally.first ∷ tally.second ∷ [];
  same = λ p q. q ≡ p;
  same_on = λ p q r first second. second ∙ first;
  same_back = λ p q is. sym is;
}
