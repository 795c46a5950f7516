-- The meaning of a space: the points that runs can reach, their steps, and what its states show of them.
use Rattle.std.specs.Prelude.{◌≡◌, ◌++◌, ◌==◌, ℕ, List, [], ◌∷◌, Some, slice_get, if◌then◌else◌}
use Rattle.std.specs.List.{flat_map, range_with_len}
use Rattle.gt_explore_search.specs.declared.spaces.Turn.{Turn}
use Rattle.gt_explore_search.specs.declared.spaces.TurnResult.{TurnResult}
use Rattle.gt_explore_search.specs.declared.spaces.TurnResult.TheVariants.{Nowhere, On, Answered}

-- the runs of a space with these states
pub record Ways (State : Type 0) : Type 1 where
  -- where a run is
  pub Point : Type 0
  -- how many domains there are
  pub domains : ℕ
  -- a run begins here
  pub begins : Point → Type 0
  -- by this turn a run moves from here to there
  pub next : Point → Turn → Point → Type 0
  -- a run may end here
  pub ends : Point → Type 0
  -- what the domain at this position has printed here
  pub printed : Point → ℕ → List ℕ
  -- the state shows a run that is here
  pub shows : State → Point → Type 0
  -- nothing is printed at the beginning
  pub blank : (p : Point) → begins p → (at : ℕ) → printed p at ≡ []

-- a run continues from here by these turns, and ends there
abbrev pub GoesTo : {W : Type 0} → (ways : Ways W) → ways.Point → List Turn → ways.Point → Type 0
GoesTo ways p [] q = (p ≡ q) × ways.ends p
GoesTo ways p (turn ∷ turns) q = (m : ways.Point) × ways.next p turn m × GoesTo ways m turns q

-- the text of a run that is here: what the first domain has printed, then what the next one has, and so on
abbrev pub text_at : {W : Type 0} → (ways : Ways W) → ways.Point → List ℕ
text_at ways p = flat_map (ways.printed p) (range_with_len 0 ways.domains)

-- from here to there the domain at each position prints this
abbrev pub PrintsTo : {W : Type 0} → (ways : Ways W) → (ℕ → List ℕ) → ways.Point → ways.Point → Type 0
PrintsTo ways rest p q = (at : ℕ) → ways.printed q at ≡ ways.printed p at ++ rest at

-- what a move prints
abbrev pub text_led : TurnResult → List ℕ
text_led Nowhere = []
text_led On = []
text_led (Answered line) = line.items

-- the domain at this position prints this, the others nothing
abbrev pub only_at : ℕ → List ℕ → ℕ → List ℕ
only_at place text at = if place == at then text else []

-- the domain at this position had such a move, and it printed what is printed from here to there
abbrev pub LedFits : {W : Type 0} → (ways : Ways W) → TurnResult → ℕ → ways.Point → ways.Point → Type 0
LedFits ways Nowhere place p q = ⊥
LedFits ways On place p q = PrintsTo ways (λ at. []) p q
LedFits ways (Answered line) place p q = PrintsTo ways (only_at place line.items) p q

-- the other state shows each run that the one shows
abbrev pub IsShownSo : {W : Type 0} → Ways W → W → W → Type 0
IsShownSo ways one other = (p : ways.Point) → ways.shows one p → ways.shows other p

-- the state shows each run that begins
abbrev pub ShowsFirst : {W : Type 0} → Ways W → W → Type 0
ShowsFirst ways w = (p : ways.Point) → ways.begins p → ways.shows w p

-- each turn by which a run that the state shows can continue is among these
abbrev pub HasEachTurn : {W : Type 0} → Ways W → W → List Turn → Type 0
HasEachTurn ways w turns =
    (p : ways.Point) (turn : Turn) (q : ways.Point) → ways.shows w p → ways.next p turn q
    → (at : ℕ) × (slice_get turns at ≡ Some turn)

-- both runs have printed the same
abbrev pub PrintsSame : {W : Type 0} → (ways : Ways W) → ways.Point → ways.Point → Type 0
PrintsSame ways q r = (at : ℕ) → ways.printed r at ≡ ways.printed q at

-- a run that is here can continue to an end by one of these turns first, and has printed the same there as at that end
abbrev pub EndsSoBy : {W : Type 0} → (ways : Ways W) → List Turn → ways.Point → ways.Point → Type 0
EndsSoBy ways turns p q =
    (first : Turn) × (n : ways.Point) × (rest : List Turn) × (r : ways.Point)
    × ((at : ℕ) × (slice_get turns at ≡ Some first)) × ways.next p first n × GoesTo ways n rest r × PrintsSame ways q r

-- for each run onward from what the state shows there is one that begins with one of these turns and prints the same
abbrev pub HasEnoughTurns : {W : Type 0} → Ways W → W → List Turn → Type 0
HasEnoughTurns ways w turns =
    (p : ways.Point) (turn : Turn) (m : ways.Point) (more : List Turn) (q : ways.Point) → ways.shows w p
    → ways.next p turn m → GoesTo ways m more q → EndsSoBy ways turns p q

-- if a run continues by this turn, the move was such, and the new state shows the point that the run reaches
abbrev pub MovesTo : {W : Type 0} → Ways W → W → Turn → TurnResult → W → Type 0
MovesTo ways old turn led new =
    (p q : ways.Point) → ways.shows old p → ways.next p turn q → LedFits ways led turn.place p q × ways.shows new q

-- the state shows a run that may end
abbrev pub MayEnd : {W : Type 0} → Ways W → W → Type 0
MayEnd ways w = (p : ways.Point) × ways.shows w p × ways.ends p
