-- The knowledge of a search about the states that it has met.
use Rattle.std.specs.Prelude.{◌≡◌, ◌⊎◌, ◌++◌, ◌<◌, ℕ, List, [], ◌∷◌, length, Option, Some, slice_get, IfSome}
use Rattle.gt_explore_search.specs.declared.spaces.Turn.{Turn}
use Rattle.gt_explore_search.specs.Lists.{HasListAt, AreWhole, GrowsInto, IsEmptyList, HasItsLine, line_by, rest_by}
use Rattle.gt_explore_search.specs.Parts.{Extends}
use Rattle.gt_explore_search.specs.Ways.{Ways, GoesTo, HasEnoughTurns, IsShownSo, PrintsTo, ShowsFirst, only_at, text_at, text_led}
use Rattle.gt_explore_search.specs.declared.exploring.Explorer.{Explorer}
use Rattle.gt_explore_search.specs.declared.exploring.SearchResult.{SearchResult}
use Rattle.gt_explore_search.specs.declared.exploring.Node.{Node}
use Rattle.gt_explore_search.specs.declared.exploring.FoundText.{FoundText}
use Rattle.gt_explore_search.specs.declared.exploring.MadeTurn.{MadeTurn}
use Rattle.gt_explore_search.specs.declared.exploring.OpenNode.{OpenNode}
use Rattle.gt_explore_search.specs.declared.spaces.TurnResult.{TurnResult}
use Rattle.gt_explore_search.specs.declared.suffixes.AnswerLine.{AnswerLine}
use Rattle.gt_explore_search.specs.declared.suffixes.AnswerLists.{AnswerLists}

-- states

-- the state with this number shows all that this one shows
abbrev pub IsShownAt : {W : Type 0} → Ways W → List W → ℕ → W → Type 0
IsShownAt {W} ways worlds n w = (v : W) × (slice_get worlds n ≡ Some v) × IsShownSo ways w v

-- the state has this number: that of one already met, or the next one
abbrev pub IsNumbered : {W : Type 0} → Ways W → List W → W → ℕ → List W → Type 0
IsNumbered ways old w n new =
    ((new ≡ old) × IsShownAt ways old n w) ⊎ ((n ≡ length old) × (new ≡ old ++ w ∷ []))

-- ends

-- there is an end with this list
abbrev pub HasEnd : List ℕ → ℕ → Type 0
HasEnd ends list = (at : ℕ) × (slice_get ends at ≡ Some list)

-- the list of one of these ends is what is printed from here to there
abbrev pub IsAmongEnds : {W : Type 0} → (ways : Ways W) → AnswerLists → List ℕ → ways.Point → ways.Point → Type 0
IsAmongEnds ways s ends p q = (list : ℕ) × HasEnd ends list × HasListAt s list × PrintsTo ways (rest_by s list) p q

-- each run onward from what this state shows is among these ends
abbrev pub AllAreFound : {W : Type 0} → Ways W → AnswerLists → W → List ℕ → Type 0
AllAreFound ways s w ends =
    (p : ways.Point) (turns : List Turn) (q : ways.Point) → ways.shows w p → GoesTo ways p turns q
    → IsAmongEnds ways s ends p q

-- each run onward by this turn is among these ends
abbrev pub AllByTurn : {W : Type 0} → Ways W → AnswerLists → W → List ℕ → Turn → Type 0
AllByTurn ways s w ends turn =
    (p m : ways.Point) (turns : List Turn) (q : ways.Point) → ways.shows w p → ways.next p turn m
    → GoesTo ways m turns q → IsAmongEnds ways s ends p q

-- each of the ends names an existing list
abbrev pub AllHaveLists : AnswerLists → List ℕ → Type 0
AllHaveLists s ends = (at list : ℕ) → slice_get ends at ≡ Some list → HasListAt s list

-- searches

-- a state is done: the runs onward from it are found
pub record NodeHolds {P : Type 0} (ways : Ways (List ℕ)) (ex : Explorer P) (n : Node) : Type 0 where
  pub world : List ℕ
  pub there : slice_get ex.states.met n.state ≡ Some world
  pub ends : List ℕ
  pub has : slice_get ex.sets n.set ≡ Some ends
  pub finds : AllAreFound ways ex.suffixes world ends
  pub lists : AllHaveLists ex.suffixes ends

-- the invariant of a search
pub record SearchHolds {P : Type 0} (ways : Ways (List ℕ)) (ex : Explorer P) : Type 0 where
  pub whole : AreWhole ex.suffixes
  pub empty : IsEmptyList ex.suffixes 0
  pub nodes : (i : ℕ) (n : Node) → slice_get ex.nodes.items i ≡ Some n → NodeHolds ways ex n
  pub done : (state i : ℕ) → slice_get ex.done.items state ≡ Some (Some i)
      → (n : Node) × (slice_get ex.nodes.items i ≡ Some n) × (n.state ≡ state)

-- a search has advanced: what there was is still there
pub record Grew {P : Type 0} (old new : Explorer P) : Type 0 where
  pub worlds : (more : List (List ℕ)) × (new.states.met ≡ old.states.met ++ more)
  pub nodes : (more : List Node) × (new.nodes.items ≡ old.nodes.items ++ more)
  pub suffixes : GrowsInto old.suffixes new.suffixes
  pub sets : (more : List (List ℕ)) × (new.sets ≡ old.sets ++ more)

-- there may be more parts now; the earlier ones are unchanged
abbrev pub PartsGrew : {P : Type 0} → Explorer P → Explorer P → Type 0
PartsGrew old new = Extends old.states.parts.kept.items new.states.parts.kept.items

-- the state led by this turn to the one with the number that was noted, and printed the line that was noted
pub record LeadsOn {P : Type 0} (ways : Ways (List ℕ)) (ex : Explorer P) (w : List ℕ) (turn : Turn) (made : MadeTurn) : Type 0 where
  pub line : HasItsLine ex.suffixes made.line
  pub other : List ℕ
  pub there : slice_get ex.states.met made.state ≡ Some other
  pub leads : (p m : ways.Point) → ways.shows w p → ways.next p turn m
      → ways.shows other m × PrintsTo ways (line_by ex.suffixes made.line) p m

-- a state's moves are being tried: its runs onward by the turns tried so far are found
pub record VisitHolds {P : Type 0} (ways : Ways (List ℕ)) (ex : Explorer P) (v : OpenNode) : Type 0 where
  pub world : List ℕ
  pub there : slice_get ex.states.met v.state ≡ Some world
  pub turns : HasEnoughTurns ways world v.turns.items
  pub tried : (at : ℕ) (turn : Turn) → at < v.next → slice_get v.turns.items at ≡ Some turn
      → AllByTurn ways ex.suffixes world v.ends.items turn
  pub made : (turn : Turn) (m : MadeTurn) → slice_get v.turns.items v.next ≡ Some turn → v.made ≡ Some m
      → LeadsOn ways ex world turn m
  pub over : (p : ways.Point) → ways.shows world p → ways.ends p → IsAmongEnds ways ex.suffixes v.ends.items p p
  pub lists : AllHaveLists ex.suffixes v.ends.items

-- the moves of each of these states are being tried
abbrev pub EachVisitHolds : {P : Type 0} → Ways (List ℕ) → Explorer P → List OpenNode → Type 0
EachVisitHolds ways ex stack = (i : ℕ) (v : OpenNode) → slice_get stack i ≡ Some v → VisitHolds ways ex v

-- the list was noted, unless it was there
pub record Notes (v : OpenNode) (list : ℕ) (w : OpenNode) : Type 0 where
  pub state : w.state ≡ v.state
  pub turns : w.turns ≡ v.turns
  pub next : w.next ≡ v.next
  pub made : w.made ≡ v.made
  pub ends : (w.ends.items ≡ v.ends.items) ⊎ (w.ends.items ≡ v.ends.items ++ list ∷ [])
  pub has : HasEnd w.ends.items list

-- the line is that of the answer that a move of the domain at this position gave
pub record IsLineOf {P : Type 0} (old : Explorer P) (place : ℕ) (led : TurnResult) (made : Option AnswerLine) (new : Explorer P)
    : Type 0 where
  pub states : new.states ≡ old.states
  pub done : new.done ≡ old.done
  pub nodes : new.nodes ≡ old.nodes
  pub sets : new.sets ≡ old.sets
  pub suffixes : GrowsInto old.suffixes new.suffixes
  pub line : HasItsLine new.suffixes made
  pub printed : (at : ℕ) → line_by new.suffixes made at ≡ only_at place (text_led led) at

-- by this turn, which prints this line, the state leads to that of this node
pub record TurnLeads {P : Type 0} (ways : Ways (List ℕ)) (ex : Explorer P) (v : OpenNode) (turn : Turn) (node : ℕ)
    (line : Option AnswerLine) : Type 0 where
  pub done : Node
  pub there : slice_get ex.nodes.items node ≡ Some done
  pub leads : (w u : List ℕ) → slice_get ex.states.met v.state ≡ Some w
      → slice_get ex.states.met done.state ≡ Some u → (p m : ways.Point) → ways.shows w p → ways.next p turn m
      → ways.shows u m × PrintsTo ways (line_by ex.suffixes line) p m

-- the runs onward by this turn were gathered
pub record Gathered {P : Type 0} (ways : Ways (List ℕ)) (old : Explorer P) (v : OpenNode) (turn : Turn) (new : Explorer P)
    (w : OpenNode) : Type 0 where
  pub holds : SearchHolds ways new
  pub grew : Grew old new
  pub visit : VisitHolds ways new w
  pub next : w.next ≡ v.next
  pub turns : w.turns ≡ v.turns
  pub found : AllByTurn ways new.suffixes visit.world w.ends.items turn

-- a turn was tried, or leads to a state that is new
pub record Stepped {P : Type 0} (ways : Ways (List ℕ)) (old : Explorer P) (v : OpenNode) (other : Option OpenNode) (new : Explorer P)
    : Type 0 where
  pub holds : SearchHolds ways new
  pub grew : Grew old new
  pub visit : VisitHolds ways new v
  pub deeper : IfSome other (VisitHolds ways new)

-- the whole search

-- the search begins
pub record SearchStarts {P : Type 0} (ways : Ways (List ℕ)) (ex : Explorer P) : Type 0 where
  pub holds : SearchHolds ways ex
  pub none : ex.states.met ≡ []

-- the search is over: the first state shows the runs that begin
pub record SearchFinishes {P : Type 0} (ways : Ways (List ℕ)) (ex : Explorer P) : Type 0 where
  pub holds : SearchHolds ways ex
  pub first : List ℕ
  pub there : slice_get ex.states.met 0 ≡ Some first
  pub shows : ShowsFirst ways first

-- for each run from its beginning to its end an order with the same text was found
abbrev pub AllTextsFound : {W : Type 0} → Ways W → SearchResult → Type 0
AllTextsFound ways found =
    (p : ways.Point) (turns : List Turn) (q : ways.Point) → ways.begins p → GoesTo ways p turns q
    → (at : ℕ) × (o : FoundText) × (slice_get found.orders.items at ≡ Some o) × (o.text.items ≡ text_at ways q)
