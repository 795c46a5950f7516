-- Parts of states with their blocks.
use Rattle.std.proofs.Common.{◌≡◌, ℕ, zero, suc, List, [], ◌∷◌, ◌++◌, Option, None, Some, map, refl, sym, ap, ◌∙◌, subst}
use Rattle.std.proofs.Common.{append_assoc, append-nil, arith, ◌≤◌}
use Rattle.std.specs.Option.{SomeIff, option_map}
use Rattle.std.specs.Prelude.{◌-◌, slice_get}
use Rattle.gt_explore_moves.specs.Parts.{SamePart, parts_of}
use Rattle.gt_explore_moves.specs.declared.parts.StatePart.{StatePart}
use Rattle.gt_explore_search.specs.Parts.{Pairwise}
use Rattle.gt_explore_changes.specs.Parts.{JoinedLists, SameBlockPart, block_parts_of, none_joined}
use Rattle.gt_explore_changes.specs.Parts.{with_block_part, with_block_parts}
use Rattle.gt_explore_changes.specs.declared.parts.BlockPart.{BlockPart}
use Rattle.gt_explore_changes.specs.declared.parts.BlockPart.TheVariants.{Blocks, Scene}
use Rattle.gt_explore_changes.specs.declared.parts.BlockState.{BlockState}

with-both : (j : JoinedLists) (xs ys : List BlockPart) → with_block_parts j (xs ++ ys) ≡ with_block_parts (with_block_parts j xs) ys
with-both j [] ys = refl
with-both j (x ∷ xs) ys = with-both (with_block_part j x) xs ys

-- a loop's step
pub with-more : (old new : JoinedLists) (xs : List BlockPart) (p : BlockPart) → old ≡ with_block_parts none_joined xs → new ≡ with_block_part old p → new ≡ with_block_parts none_joined (xs ++ p ∷ [])
with-more old new xs p was is = is ∙ ap (λ (j : JoinedLists). with_block_part j p) was ∙ sym (with-both none_joined xs (p ∷ []))

-- the parts of a script's state
pub scene-parts : (ps : List StatePart) (made : List BlockPart) (j : JoinedLists) → Pairwise SameBlockPart (map Scene ps) made
    → (qs : List StatePart) × (with_block_parts j made ≡ record j { parts = j.parts ++ qs }) × Pairwise SamePart ps qs
scene-parts [] [] j each = ([], ap (λ (l : List StatePart). record j { parts = l }) (sym (append-nil j.parts)), tt)
scene-parts (p ∷ ps) (Scene q ∷ made) j each =
    let (qs, are, same) = scene-parts ps made (with_block_part j (Scene q)) each.1 in
    (q ∷ qs, are ∙ ap (λ (l : List StatePart). record j { parts = l }) (append_assoc j.parts (q ∷ []) qs), (each.0, same))
scene-parts (p ∷ ps) (Blocks last blocks ∷ made) j each = absurd each.0
scene-parts [] (q ∷ made) j each = absurd each
scene-parts (p ∷ ps) [] j each = absurd each

-- the parts of two states with the same parts
pub same-scenes : (ps qs : List StatePart) → Pairwise SameBlockPart (map Scene ps) (map Scene qs) → Pairwise SamePart ps qs
same-scenes [] [] each = tt
same-scenes (p ∷ ps) (q ∷ qs) each = (each.0, same-scenes ps qs each.1)
same-scenes [] (q ∷ qs) each = absurd each
same-scenes (p ∷ ps) [] each = absurd each

-- what was read of parts that are the same as those of a state
pub record ReadAs (w : BlockState) (j : JoinedLists) : Type 0 where
  pub last : j.last ≡ w.last
  pub blocks : j.blocks ≡ w.blocks
  pub parts : Pairwise SamePart (parts_of w.scene_state) j.parts

pub read-as : (w : BlockState) (made : List BlockPart) (j : JoinedLists) → j ≡ with_block_parts none_joined made → Pairwise SameBlockPart (block_parts_of w) made → ReadAs w j
read-as w [] j is each = absurd each
read-as w (Scene q ∷ made) j is each = absurd each.0
read-as w (Blocks last blocks ∷ made) j is each =
    let (qs, are, same) = scene-parts (parts_of w.scene_state) made (with_block_part none_joined (Blocks last blocks)) each.1 in
    subst (ReadAs w) (sym (is ∙ are)) (record { last = each.0.0; blocks = each.0.1; parts = same })

-- a part of the script's state
pub scene-at : (ps : List StatePart) (at : ℕ) (p : StatePart) → slice_get ps at ≡ Some p → slice_get (map Scene ps) at ≡ Some (Scene p)
scene-at [] at p there = absurd cc
scene-at (q ∷ ps) zero p there = ap (option_map Scene) there
scene-at (q ∷ ps) (suc at) p there = scene-at ps at p there

pub scene-part-at : (w : BlockState) (at n : ℕ) (p : StatePart) → 1 ≤ at → n ≡ at - 1 → slice_get (parts_of w.scene_state) n ≡ Some p → slice_get (block_parts_of w) at ≡ Some (Scene p)
scene-part-at w zero n p some is there = absurd (omega (arith, some))
scene-part-at w (suc at) n p some is there =
    let same : n ≡ at = omega (arith, is) in scene-at (parts_of w.scene_state) at p (subst (λ (m : ℕ). slice_get (parts_of w.scene_state) m ≡ Some p) same there)

-- the part before all others
pub none-zero : (at : ℕ) (r : Option ℕ) → SomeIff r (1 ≤ at) (at - 1) → r ≡ None → 1 ≤ at → ⊥
none-zero at r iff none = subst (λ (o : Option ℕ). SomeIff o (1 ≤ at) (at - 1)) none iff

pub blocks-at : (w : BlockState) (at : ℕ) → (1 ≤ at → ⊥) → slice_get (block_parts_of w) at ≡ Some (Blocks w.last w.blocks)
blocks-at w zero none = refl
blocks-at w (suc at) none = absurd (none (omega arith))
