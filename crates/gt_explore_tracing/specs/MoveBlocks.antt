-- The blocks of moves, and moves with the fewest.
use Rattle.std.specs.Prelude.{ℕ, List, map, None, IsTrue}
use Rattle.gt_script.specs.RunContents.{RunContents}
use Rattle.gt_explore_answers.specs.Outputs.{Found}
use Rattle.gt_explore_answers.specs.Witness.{IsTextNumbered}
use Rattle.gt_explore_changes.specs.Blocks.{blocks_from}
use Rattle.gt_explore_changes.specs.Fewest.{HasAtLeast}
use Rattle.gt_explore_trace.specs.Moves.{GivesText}
use Rattle.gt_explore_trace.specs.declared.moves.TracedMove.{TracedMove}
use Rattle.gt_explore_tracing.specs.declared.fewest.FewestMoves.{FewestMoves}

-- the number of blocks of moves: longest sequences of moves of one domain
abbrev pub move_blocks : List TracedMove → ℕ
move_blocks moves = blocks_from None (map (λ m. m.dom) moves)

-- each order of the script that gives this text has at least as many blocks as these moves
abbrev pub HaveFewestBlocks : RunContents → List ℕ → List TracedMove → Type 0
HaveFewestBlocks c text moves = HasAtLeast c text (move_blocks moves)

-- the moves are those of an order of the script that gives the text of this number; if `is_fewest`, no order with this
-- text has fewer blocks
pub record LeadToNumbered (c : RunContents) (f : Found) (number : ℕ) (m : FewestMoves) : Type 0 where
  pub numbered : IsTextNumbered f.texts number m.text.items
  pub gives : GivesText c m.moves.items m.text.items
  pub fewest : IsTrue m.is_fewest → HaveFewestBlocks c m.text.items m.moves.items
