use Rattle.std.proofs.Common.{◌≡◌, drop}
use Rattle.std.specs.List.{list_any}
use Rattle.std.specs.Prelude.{◌&&◌}
use Rattle.gt_model.specs.Entries.{frame_of}
use Rattle.gt_explore_moves.specs.Touches.{frame_touch, is_grant_of, meets}
use Rattle.gt_explore_moves.specs.declared.granted.GrantedEntry.{GrantedEntry}
use Rattle.gt_explore_moves.proofs.touches.meets_last.Given as goal

abbrev pub invariant-grants : goal.invariant-grants
invariant-grants l =
    list_any (λ (g : GrantedEntry). is_grant_of l.owner l.gref g && meets l.next (frame_touch l.dir l.owner (frame_of g.entry))) l.grants
    ≡ list_any (λ (g : GrantedEntry). is_grant_of l.owner l.gref g && meets l.next (frame_touch l.dir l.owner (frame_of g.entry)))
    (drop l.granted-index l.grants)
