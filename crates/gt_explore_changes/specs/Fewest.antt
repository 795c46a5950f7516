-- Orders with the fewest blocks.
use Rattle.std.specs.Prelude.{◌≤◌, ℕ, suc, List}
use Rattle.gt_explore_changes.specs.Blocks.{blocks_in, order_blocks}
use Rattle.gt_explore_changes.specs.declared.fewest.FewerBlocks.{FewerBlocks}
use Rattle.gt_explore_changes.specs.declared.fewest.FewerBlocks.TheVariants.{Found, Nowhere, Unknown}
use Rattle.gt_explore_replay.specs.Orders.{Happening, IsOrderOf}
use Rattle.gt_explore_search.specs.declared.spaces.Turn.{Turn}
use Rattle.gt_script.specs.RunContents.{RunContents}

-- each order with this text has at least this number of blocks
abbrev pub HasAtLeast : RunContents → List ℕ → ℕ → Type 0
HasAtLeast c text n = (hs : List Happening) → IsOrderOf c hs text → n ≤ order_blocks hs

-- no order with this text has fewer blocks than these turns
abbrev pub HasFewestBlocks : RunContents → List ℕ → List Turn → Type 0
HasFewestBlocks c text turns = HasAtLeast c text (blocks_in turns)

-- what a search for an order with this text in at most this number of blocks came to
abbrev pub IsSearchedWithin : RunContents → List ℕ → ℕ → FewerBlocks → Type 0
IsSearchedWithin c text most (Found turns) = blocks_in turns.items ≤ most
IsSearchedWithin c text most (Nowhere states) = HasAtLeast c text (suc most)
IsSearchedWithin c text most Unknown = Unit {0}
