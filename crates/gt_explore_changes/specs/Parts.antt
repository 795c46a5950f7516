-- The states of a script with their blocks, and the parts of such states.
use Rattle.std.specs.Prelude.{◌≡◌, ◌++◌, ℕ, List, [], ◌∷◌, Option, None, map}
use mathlib.Core.Path.{◌∙◌, sym}
use Rattle.gt_explore_moves.specs.Parts.{SamePart, parts_of, same_part_back, same_part_on}
use Rattle.gt_explore_moves.specs.declared.parts.StatePart.{StatePart}
use Rattle.gt_explore_search.specs.Parts.{Splitting}
use Rattle.gt_explore_changes.specs.declared.parts.BlockPart.{BlockPart}
use Rattle.gt_explore_changes.specs.declared.parts.BlockPart.TheVariants.{Blocks, Scene}
use Rattle.gt_explore_changes.specs.declared.parts.BlockState.{BlockState}
use Rattle.gt_explore_changes.specs.declared.parts.JoinedParts.{JoinedParts}

-- the other part is of the same kind, and has the same content
abbrev pub SameBlockPart : BlockPart → BlockPart → Type 0
SameBlockPart (Blocks last blocks) (Blocks other count) = (other ≡ last) × (count ≡ blocks)
SameBlockPart (Scene p) (Scene q) = SamePart p q
SameBlockPart p q = ⊥

pub same_block_on : (p q r : BlockPart) → SameBlockPart p q → SameBlockPart q r → SameBlockPart p r
same_block_on (Blocks l n) (Blocks k m) (Blocks j o) f g = (g.0 ∙ f.0, g.1 ∙ f.1)
same_block_on (Scene a) (Scene b) (Scene c) f g = same_part_on a b c f g
same_block_on (Blocks l n) (Blocks k m) r f g = absurd g
same_block_on (Scene a) (Scene b) r f g = absurd g
same_block_on p q r f g = absurd f

pub same_block_back : (p q : BlockPart) → SameBlockPart p q → SameBlockPart q p
same_block_back (Blocks l n) (Blocks k m) f = (sym f.0, sym f.1)
same_block_back (Scene a) (Scene b) f = same_part_back a b f
same_block_back p q f = absurd f

-- the blocks so far, and then the parts of the script's state
abbrev pub block_parts_of : BlockState → List BlockPart
block_parts_of w = Blocks w.last w.blocks ∷ map Scene (parts_of w.scene_state)

abbrev pub block_splitting : Splitting BlockState BlockPart
block_splitting = record {
  of = block_parts_of;
  same = SameBlockPart;
  same_on = same_block_on;
  same_back = same_block_back;
}

-- what was read of parts
pub record JoinedLists : Type 0 where
  pub last : Option ℕ
  pub blocks : ℕ
  pub parts : List StatePart

abbrev pub joined_in : JoinedParts → JoinedLists
joined_in j = record { last = j.last; blocks = j.blocks; parts = j.parts.items }

-- after one more part, and after these
abbrev pub with_block_part : JoinedLists → BlockPart → JoinedLists
with_block_part j (Blocks last blocks) = record j { last = last; blocks = blocks }
with_block_part j (Scene p) = record j { parts = j.parts ++ p ∷ [] }

abbrev pub with_block_parts : JoinedLists → List BlockPart → JoinedLists
with_block_parts j [] = j
with_block_parts j (p ∷ ps) = with_block_parts (with_block_part j p) ps

-- nothing was read
abbrev pub none_joined : JoinedLists
none_joined = record { last = None; blocks = 0; parts = [] }
