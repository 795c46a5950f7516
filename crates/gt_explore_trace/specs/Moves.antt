-- The moves of an order, and the happenings that they show.
use Rattle.std.specs.Prelude.{◌≡◌, ℕ, List, [], ◌∷◌, Some, slice_get}
use Rattle.std.specs.Option.{option_map}
use Rattle.gt_types.specs.declared.config.DomainConfig.{DomainConfig}
use Rattle.gt_script.specs.RunContents.{RunContents}
use Rattle.gt_explore_replay.specs.Orders.{Happening, IsOrderOf, doer}
use Rattle.gt_explore_replay.specs.Walking.{IsShownBy}
use Rattle.gt_explore_search.specs.declared.spaces.Turn.{Turn}
use Rattle.gt_explore_trace.specs.declared.moves.TracedMove.{TracedMove}

-- the move shows this happening, and is by the domain that does it
pub record IsMoveOf (m : TracedMove) (x : Happening) : Type 0 where
  pub own_move : m.dom ≡ doer x
  pub shown : IsShownBy m.moved x

-- the moves show these happenings, one for each
abbrev pub AreMovesOf : List TracedMove → List Happening → Type 0
AreMovesOf [] [] = Unit {0}
AreMovesOf (m ∷ ms) (x ∷ hs) = IsMoveOf m x × AreMovesOf ms hs
AreMovesOf [] (x ∷ hs) = ⊥
AreMovesOf (m ∷ ms) [] = ⊥

-- the moves are those of an order of the script that gives this text
abbrev pub GivesText : RunContents → List TracedMove → List ℕ → Type 0
GivesText c moves text = (hs : List Happening) × IsOrderOf c hs text × AreMovesOf moves hs

-- each turn has a move, which is by the domain at its position
abbrev pub AreByTurns : List DomainConfig → List Turn → List TracedMove → Type 0
AreByTurns ds [] [] = Unit {0}
AreByTurns ds (t ∷ ts) (m ∷ ms) = (option_map (λ d. d.id) (slice_get ds t.place) ≡ Some m.dom) × AreByTurns ds ts ms
AreByTurns ds [] (m ∷ ms) = ⊥
AreByTurns ds (t ∷ ts) [] = ⊥
