-- Blocks: longest sequences of turns of one domain.
use Rattle.std.specs.Prelude.{ℕ, suc, ◌+◌, ◌==◌, Bool, false, List, [], ◌∷◌, map, Option, Some, None, if◌then◌else◌}
use Rattle.gt_types.specs.declared.DomId.{DomId}
use Rattle.gt_explore_replay.specs.Orders.{Happening, doer}
use Rattle.gt_explore_search.specs.declared.spaces.Turn.{Turn}

-- orders

-- the domain before was this one too
abbrev pub is_again : Option DomId → DomId → Bool
is_again None dom = false
is_again (Some other) dom = other.0 == dom.0

-- the number of blocks that begin with one of these domains, which move one after the other, and after this one
abbrev pub blocks_from : Option DomId → List DomId → ℕ
blocks_from last [] = 0
blocks_from last (dom ∷ doms) = (if is_again last dom then 0 else 1) + blocks_from (Some dom) doms

-- the number of blocks of an order: longest sequences of happenings of one domain
abbrev pub order_blocks : List Happening → ℕ
order_blocks hs = blocks_from None (map doer hs)

-- turns

-- the last turn was of the domain at this position
abbrev pub is_last : Option ℕ → ℕ → Bool
is_last None place = false
is_last (Some other) place = other == place

-- the number of blocks after one more turn, of the domain at this position
abbrev pub blocks_with : Option ℕ → ℕ → ℕ → ℕ
blocks_with last blocks place = if is_last last place then blocks else suc blocks

-- the same after these turns
abbrev pub blocks_after : Option ℕ → ℕ → List Turn → ℕ
blocks_after last blocks [] = blocks
blocks_after last blocks (t ∷ ts) = blocks_after (Some t.place) (blocks_with last blocks t.place) ts

-- the number of blocks of these turns
abbrev pub blocks_in : List Turn → ℕ
blocks_in turns = blocks_after None 0 turns
