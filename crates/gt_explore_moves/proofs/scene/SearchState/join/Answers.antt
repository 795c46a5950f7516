use Rattle.std.proofs.Common.{refl, [], ◌∷◌, ◌++◌}
use Rattle.gt_explore_moves.specs.Parts.{lists_in, no_parts}
use Rattle.gt_explore_moves.proofs.Joining.{with-more}
use Rattle.gt_explore_moves.proofs.scene.SearchState.join.Goals as goal

pub parts-preserved : goal.parts-preserved
parts-preserved c = with-more no_parts (lists_in c.parts.state) (lists_in c.put.new.self) c.parts.yielded (c.parts.yielded ++ c.in-Some.part ∷ []) c.in-Some.part c.parts.invariant c.in_ok-put.ensures refl
